-- document 01's twelve proved examples, and before them the fit of P9
pub mod ConstantSeries
pub mod Twelve
-- the two rules of a later prediction
pub mod Rules
-- ---- demand 3, of the tables that the calls write. In the order to read:
-- what sums, products, quotients and exponentials of numbers not below zero are
pub mod Signs
-- sums over lists are sums upward
pub mod Lists
-- rows of weights divided by their sum, for any predictions and densities
pub mod Update
-- the filter's rows are such rows
pub mod Filtered
-- the tables of the calls
pub mod Tables
-- a call that meets what demand 3 asks first
pub mod Witness
-- ---- the entry points, and one outcome of each contract
-- the laws on contracts
pub mod Contracts
-- the entry points, a line for each
pub mod EntryPoints
-- both lists
pub mod OneOutcome
-- ---- the theorems about the definitions
pub mod Meanings
-- sizes, by their numbers
pub mod Unique
