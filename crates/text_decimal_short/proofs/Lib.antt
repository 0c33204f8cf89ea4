-- 17 digits rounded to n
pub mod Rounding
-- the parts of the layout
pub mod Styles
-- the definition on concrete numbers
pub mod Values
