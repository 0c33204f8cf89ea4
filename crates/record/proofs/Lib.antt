-- a thin function, and the record taken apart: laws on the logic, as walks by hand used them
pub mod Apart
pub mod Thin
