pub mod Smoother
pub mod InMemory
pub mod Steps
