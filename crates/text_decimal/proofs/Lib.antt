-- a decimal of 17 digits rounds back
pub mod Back
-- the text read again
pub mod Again
-- every number that is written is read back
pub mod RoundTrip
-- the definitions on known values
pub mod Values
