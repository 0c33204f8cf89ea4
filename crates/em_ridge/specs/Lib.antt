pub mod Ridge
