pub mod Children
pub mod Paper
pub mod Answers
pub mod Padded
pub mod Summed
pub mod Lent
pub mod Seam
pub mod Unique
