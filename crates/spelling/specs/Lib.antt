pub mod Line
pub mod Printed
