pub mod Stationary
