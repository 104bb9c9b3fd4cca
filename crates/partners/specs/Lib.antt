pub mod Closest
pub mod Eight
pub mod Edges
