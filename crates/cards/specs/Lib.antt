pub mod Source
pub mod Fields
