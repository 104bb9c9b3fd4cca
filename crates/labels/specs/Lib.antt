pub mod Pairs
pub mod Records
pub mod Tested
pub mod Answers
