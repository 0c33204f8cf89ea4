-- the diagonal: its largest place, and the ridge
pub mod Diagonal
-- the two ways to an answer
pub mod Answers
