pub mod Traits
pub mod Codes
