-- what is promised of an entry point
pub mod Promised
-- functions' types, as the source writes them
pub mod Types
-- the entry points, each with the outcome that it gives: the whole promise to a caller
pub mod EntryPoints
-- what serves the crates above, and has one outcome
pub mod BetweenCrates
-- demand 3 of the tables that the calls write
pub mod Demand
-- what is proved of the definitions themselves
pub mod Meanings
-- document 01's twelve proved examples
pub mod Twelve
-- the two rules of a later prediction, beside each other
pub mod Rules
