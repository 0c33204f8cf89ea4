-- parts of the table exchanged, or less a multiple of another
pub mod Parts
-- each step of the solver, from the facts that the code holds
pub mod Steps
-- the column at which elimination stops is the first whose pivot is too small
pub mod Stopped
-- values of the solver, for each rule and each outcome
pub mod Examples
