pub mod Put
pub mod Places
pub mod Firsts
pub mod Lines
pub mod Plan
pub mod Count
pub mod Write
pub mod Counting
