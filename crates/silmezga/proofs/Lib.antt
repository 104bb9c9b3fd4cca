pub mod Trees
pub mod ReadBack
pub mod Unique
pub mod Indexed
