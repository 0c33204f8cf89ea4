-- the last row, where there is one
pub mod Places
-- the run: for a loop, and what it says of the rows
pub mod Runs
-- how many readings a run needs: for a loop, its bounds, that it is the least; settled
pub mod Enough
-- how many, of some durations, and the finding of a small table, computed
pub mod Examples
