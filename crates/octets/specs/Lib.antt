pub mod Part
pub mod Served
