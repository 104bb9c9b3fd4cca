pub mod Signs
pub mod Taken
pub mod Spelled
