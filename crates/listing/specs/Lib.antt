pub mod Listing
pub mod Edge
pub mod Samples
