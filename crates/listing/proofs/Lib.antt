pub mod Values
pub mod Dewey
