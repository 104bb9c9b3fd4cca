pub mod EntryTypes
pub mod Ways
pub mod Tests
pub mod Shape
pub mod Edges
pub mod Work
