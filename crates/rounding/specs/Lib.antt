-- What the laws speak of. In the order to read them:
-- a number as a whole number of units
pub mod Units
-- bounds on a number's size, and on how far two whole numbers are apart
pub mod Bounds
-- signs, and the order of ±a and ±b
pub mod Signed
-- good weights, their float sum and their exact sum; sums of whole numbers
pub mod Sums
-- weights divided by their sum, and the shares of labels
pub mod Shares
-- k probabilities whose exact total is near one: what demand 3 says of a row
pub mod NearOne
