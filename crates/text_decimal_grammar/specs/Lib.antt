-- what a byte leads to
pub mod Grammar
-- what is true of a state
pub mod Room
