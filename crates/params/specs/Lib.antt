-- what a record of parameters means
pub mod Parameters
-- the checks, in their order
pub mod Checks
-- expected durations
pub mod Durations
-- what the constructor builds
pub mod Built
