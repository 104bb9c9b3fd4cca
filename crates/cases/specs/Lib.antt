pub mod Marked
pub mod Chain
