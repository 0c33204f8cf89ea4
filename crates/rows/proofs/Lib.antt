-- places of a row in memory
pub mod Places
-- a row stored in memory
pub mod Stored
-- rows and probabilities
pub mod Rows
-- what stands at a place of the smoothed table
pub mod SmoothedTable
-- arrays of sums over places, one place more
pub mod Cells
-- the rows in work memory by place
pub mod ByPlace
