-- `whole_root` is the whole number nearest to the root, and the only one
mod WholeRoot
-- the loop of `by_digits`
mod Digits
-- the whole numbers of `excess` and `settled`
mod Parts
-- a number above zero as 53 digits times a power of two, and its `root_pattern`
mod Scaled
-- a nearest whole number is nearer, scaled, than any other number of 53 digits
mod Squares
-- the number with the pattern `root_pattern` is nearest to the root
mod Nearest
-- `root_of x` is the root of x, and the only one
pub mod Theorem
-- what the tests of `root` say
mod Cases
-- values
pub mod Values
