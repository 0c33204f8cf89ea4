-- the examples' values, of the definitions that the contracts of the called functions cite
pub mod Values
