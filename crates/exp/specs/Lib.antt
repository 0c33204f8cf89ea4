-- the exponential
pub mod Exp
-- what the functions below `exp` ask of x
pub mod Range
