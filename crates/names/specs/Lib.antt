pub mod Names
pub mod Table
pub mod Steps
pub mod Raised
