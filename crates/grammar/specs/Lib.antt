pub mod Text
pub mod Names
pub mod Grammar
pub mod Typed
pub mod Reader
pub mod Samples
