-- the solver
pub mod Solver
-- what the functions below `solve` promise each other
pub mod Promises
