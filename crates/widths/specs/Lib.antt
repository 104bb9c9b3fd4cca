pub mod Moves
pub mod Tested
pub mod Answers
