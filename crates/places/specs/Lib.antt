pub mod Codes
pub mod Places
