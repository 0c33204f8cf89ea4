-- checks one before another
pub mod Checks
-- checks at each of n places, for a loop over them
pub mod Each
-- no refusal has the number 0
pub mod Numbers
