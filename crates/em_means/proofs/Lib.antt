-- sensitivities, and readings less their lags
pub mod Lags
-- one window added to the sums
pub mod Added
-- the sums place by place, and that they are the definition's
pub mod Walk
-- rows with the same weights
pub mod Same
