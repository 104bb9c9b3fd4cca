pub mod Place
pub mod Reply
