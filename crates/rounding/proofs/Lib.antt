-- Laws about rounding, of a variable format f wherever binary64 is not named. They assume nothing. In the order to read them:

-- of two whole numbers, which is the smaller
pub mod Choose
-- ---- what rounding and the operations keep
-- `neg` goes through `round`
pub mod Negate
-- what `le` says of signs and units
pub mod Signed
-- `le` is transitive and total; what a test x < y says
pub mod Order
-- rounding keeps the sign, zero and the order
pub mod Round
-- the operations on finite numbers, as the fractions that they round
pub mod Operations
-- x + y is not below zero if x and y are not, and so x y and x / y
pub mod Signs
-- x + y grows with x and y, whatever their signs
pub mod Monotone
-- x y grows with x and y, which are not below zero
pub mod Product
-- ---- how far rounding goes astray, up to demand 3
-- a fraction rounded
pub mod Error
-- numbers as whole numbers of units
pub mod Units
-- a sum upward: its error, that it does not overflow, that it is finite only if its parts are
pub mod Sums
-- quotients by one number: each one's error, and that of their sum
pub mod Quotients
-- the parts of a list by label sum to the whole
pub mod Parts
-- demand 3 for one row of weights
pub mod Rows
-- ---- bounds on the size, at binary64
-- through the operations
pub mod Intervals
-- of zero, a half, one and two
pub mod Constants
-- from the bit pattern
pub mod Pattern
-- of a sum of numbers of either sign
pub mod SignedSum
-- of the exponent's field of the pattern
pub mod Field
-- rounding read backwards, and which fractions are numbers
pub mod Rounded
-- whole numbers are exact, and so is their difference
pub mod Whole
-- numbers above zero with equal units are the same
pub mod Same
