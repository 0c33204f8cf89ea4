-- one test for either of two things
mod Tests
-- each way that the logarithm ends is at most 746 in size
mod Bound
-- the logarithm of a number above zero is finite, and at most 746 in size
pub mod Size
-- values, as Java gives them
pub mod Values
