-- the weight of the first digit
pub mod First
-- the 17 digits
pub mod Seventeen
-- bytes, one behind the other
pub mod Bytes
-- from a pattern to its text
pub mod Magnitudes
-- no decimal with the same power of ten is nearer
pub mod Best
