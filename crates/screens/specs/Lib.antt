pub mod Screens
pub mod Samples
