-- what a test on a count says of it
pub mod Tests
-- the checks in their order, part by part
pub mod Order
-- where the checks pass, the counts lie within the arrays
pub mod Within
-- a built record passes the checks again
pub mod Again
-- one record for each refusal
pub mod Examples
