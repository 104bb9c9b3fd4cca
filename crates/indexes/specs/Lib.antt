pub mod Wrong
pub mod Last
pub mod Tested
pub mod Labels
pub mod Front
pub mod Built
