pub mod Names
pub mod Terms
