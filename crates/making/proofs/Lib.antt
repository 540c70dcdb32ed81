-- The laws of what a card makes.
pub mod Cards
pub mod Writing
