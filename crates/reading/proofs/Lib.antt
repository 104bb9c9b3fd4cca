pub mod Held
pub mod Reading
pub mod Unique
