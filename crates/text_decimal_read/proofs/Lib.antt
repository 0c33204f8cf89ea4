-- patterns of units
pub mod Patterns
-- the fraction's digits, rounded
pub mod Nearby
-- where a fraction is too large or too small
pub mod Extremes
-- one power of ten
pub mod Scaled
-- the loop that reads a text
pub mod Scan
