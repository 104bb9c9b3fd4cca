pub mod Billing
pub mod Entry
pub mod Samples
