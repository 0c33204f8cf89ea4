-- what the tests `x != x`, `x < 0.0`, `x == 0.0` say, and document 01's cases of max
pub mod Cases
-- the first place that fails a test, for a loop
pub mod First
-- sums, for a loop
pub mod Sums
-- rows and tables
pub mod Table
-- values of a function as a list of bit patterns, which the crates above prove of theirs
pub mod Values
