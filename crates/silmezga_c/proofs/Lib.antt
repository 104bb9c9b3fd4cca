pub mod Named
pub mod Says
pub mod Told
pub mod Unique
