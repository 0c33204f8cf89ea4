pub mod Variances
pub mod Steps
