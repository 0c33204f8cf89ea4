pub mod Fit
pub mod Verdicts
pub mod Calls
