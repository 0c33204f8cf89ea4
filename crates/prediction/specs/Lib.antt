pub mod Prediction
pub mod Steps
