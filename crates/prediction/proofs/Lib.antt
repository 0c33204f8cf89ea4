-- the labels of a window, and one turn more of a loop
mod Turns
-- which rule mixes at which order, and that a later row of the code is the rule's
pub mod Rules
-- what the rows hold
pub mod Predicted
