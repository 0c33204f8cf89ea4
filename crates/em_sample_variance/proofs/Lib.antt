-- the series of document 01's P9
pub mod Examples
