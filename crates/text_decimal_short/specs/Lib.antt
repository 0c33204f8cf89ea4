-- a number as text of at most n digits
pub mod Short
