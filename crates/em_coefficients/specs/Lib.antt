pub mod Coefficients
pub mod Steps
