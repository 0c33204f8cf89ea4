-- windows that share a sum
mod Common
-- rows times their sums
mod Scaled
-- a row so made is the smoother's
mod Row
-- rows in memory, from the last back
mod Back
