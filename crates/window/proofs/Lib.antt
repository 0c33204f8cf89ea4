-- numbers and lists of labels
pub mod Windows
-- the windows that may come next, and those that may have come before
pub mod Neighbours
-- the order, by the count of windows
pub mod Shape
-- the code's arithmetic
pub mod Arithmetic
-- labels now run round
pub mod Round
