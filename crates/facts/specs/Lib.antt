pub mod Facts
pub mod Typed
pub mod Samples
