-- bounds on the polynomial and on `exp_part`
mod Part
-- n in whole numbers: what x less n * ln2HI leaves is small
mod Reduce
-- the whole part of a number, from the fields of its pattern
mod Cut
-- the far case: n, hi and lo are small
mod Far
-- the exponent's field of y
mod Middle
-- what the high word and the sign bit say of x
mod Size
-- either case: y is no NaN, and k can be added to its exponent
mod Reduced
-- n = 1024, the largest: y is at most 1
mod Top
-- up to the overflow threshold: the last pattern is infinity's at most
mod Over
-- the exponential is no NaN and at least zero, except of a NaN
pub mod Signed
-- values, as Java gives them
pub mod Values
