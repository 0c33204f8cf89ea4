-- rows filled in part: by their own numbers, in front of a filled part, again and again
pub mod Rows
-- variances by label, deviations and their logarithms
pub mod Tables
-- one lag more, block by block
pub mod Lags
-- the means of a row, lag by lag
pub mod Means
-- what is weighed by the tables is prediction × density
pub mod Weights
