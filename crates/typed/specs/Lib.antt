pub mod Matching
pub mod Entries
pub mod Walk
pub mod Read
pub mod Shaped
