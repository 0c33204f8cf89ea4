-- counting, one place more
pub mod Counting
-- the new table is the definition's, and only the weights of the rows count
pub mod Dividing
