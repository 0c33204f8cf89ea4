-- values, as C and Python give them
pub mod Values
