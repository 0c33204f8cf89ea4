-- what a run leaves
pub mod Runs
-- a call that was admitted
pub mod Admitted
-- the outcomes of the calls
pub mod Outcomes
