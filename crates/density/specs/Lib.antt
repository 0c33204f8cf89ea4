pub mod Density
pub mod Steps
