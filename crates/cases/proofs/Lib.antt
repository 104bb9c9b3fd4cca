pub mod Marks
pub mod Chained
pub mod Fits
