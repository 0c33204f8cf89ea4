-- limbs and the numbers that they are
pub mod Value
-- the loop of `times`, and that of `over`
pub mod Multiply
pub mod Divide
-- which limbs are zero
pub mod Top
-- v * 2 ^ place
pub mod Place
-- how many binary digits there are
pub mod Length
-- without the lowest digits
pub mod Lowest
-- powers of ten
pub mod Tens
-- to the nearest whole number
pub mod Halves
