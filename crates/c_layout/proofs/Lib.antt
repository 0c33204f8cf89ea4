-- copies of all places, and answers laid out
pub mod Spelling
