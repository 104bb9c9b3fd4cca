pub mod Told
pub mod Lone
pub mod Pairs
pub mod Full
pub mod Judged
