pub mod Listed
pub mod Ranged
pub mod Standing
pub mod Zeros
pub mod Written
pub mod Kept
pub mod Answers
pub mod Unique
