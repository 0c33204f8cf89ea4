pub mod Filter
pub mod Steps
