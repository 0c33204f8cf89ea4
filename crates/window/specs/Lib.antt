-- windows as lists of labels, and their numbers
pub mod Windows
-- the shape of a model, and the numbers of its windows
pub mod Shape
-- rows and times
pub mod Time
