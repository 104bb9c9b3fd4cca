pub mod Ways
pub mod Pass
pub mod Step
pub mod Search
pub mod Listed
pub mod Few
pub mod Told
