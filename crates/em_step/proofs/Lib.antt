-- what the code's ways give
pub mod Ways
-- what a step keeps
pub mod Kept
