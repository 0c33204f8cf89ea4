-- the weights of a row
pub mod Weights
-- what the loop over rows keeps
pub mod Kept
-- counts of windows and rows
pub mod Start
