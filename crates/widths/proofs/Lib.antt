pub mod First
pub mod Moving
pub mod Deep
pub mod Answers
pub mod Unique
