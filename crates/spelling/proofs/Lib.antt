pub mod Left
pub mod Parts
pub mod Entries
pub mod Walk
pub mod Answers
pub mod Unique
