pub mod Rows
pub mod Memory
pub mod Smoothed
pub mod Steps
