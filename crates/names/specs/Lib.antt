pub mod Put
pub mod Word
