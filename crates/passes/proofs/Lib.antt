-- The laws of the passes.
pub mod Cases
pub mod Turns
pub mod Fine
pub mod Names
pub mod Counter
pub mod Named
pub mod Assembly
