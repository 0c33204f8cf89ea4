-- what a call leaves
pub mod Spelling
