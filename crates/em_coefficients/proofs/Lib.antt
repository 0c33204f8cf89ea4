-- sums in the cells of an array, in blocks
mod Walk
-- blocks in arrays, their equations and their answers
mod Parts
-- the sums and the blocks are the definition's
pub mod Sums
