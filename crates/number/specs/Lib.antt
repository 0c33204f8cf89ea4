-- operations, patterns, tests, magnitude, max
pub mod Number
-- sums upward
pub mod Sums
-- rows and tables
pub mod Table
-- tests of each number of a row
pub mod Tests
