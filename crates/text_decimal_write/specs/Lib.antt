-- a number as text of 17 digits
pub mod Decimals
-- what the functions hand to each other
pub mod Room
