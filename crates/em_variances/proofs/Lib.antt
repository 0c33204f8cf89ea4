-- factors with their signs turned
mod Turned
-- the sums place by place, and that they are the definition's
pub mod Sums
