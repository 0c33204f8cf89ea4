-- the ways through a pass
pub mod OnePass
-- what the passes keep, and how many there are
pub mod Going
-- what a fit leaves
pub mod Ends
