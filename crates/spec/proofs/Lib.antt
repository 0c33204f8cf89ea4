-- each outcome of the window count, from what the code tests
pub mod Count
