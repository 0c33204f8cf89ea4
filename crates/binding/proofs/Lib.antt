-- what the checks that passed say
pub mod Passed
