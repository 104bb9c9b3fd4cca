pub mod Parts
pub mod Articles
pub mod Lines
