pub mod Figures
pub mod Reshaped
pub mod Rows
