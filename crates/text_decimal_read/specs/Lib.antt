-- a number as text, and its value
pub mod Text
-- what the functions hand to each other
pub mod Normal
