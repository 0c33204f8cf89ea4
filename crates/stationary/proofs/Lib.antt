-- the entries of the system, by the code's tests
mod Entries
-- the check of one share
mod OneShare
-- what is made of the solver's answer
mod Answers
-- how many regimes parameters that pass have
mod Counts
-- P4 and P6
pub mod Examples
