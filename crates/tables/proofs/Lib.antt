pub mod Back
pub mod Laws
pub mod Follows
pub mod Rows
pub mod Examine
pub mod Unique
pub mod Walks
