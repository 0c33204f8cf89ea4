-- the root
pub mod Root
-- what the functions below `root` hand to each other
pub mod Steps
