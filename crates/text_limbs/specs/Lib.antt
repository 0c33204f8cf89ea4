-- numbers as limbs
pub mod Limbs
-- numbers whose end is cut off
pub mod Remains
