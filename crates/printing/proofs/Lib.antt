pub mod Parts
pub mod Entries
