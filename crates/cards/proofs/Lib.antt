-- The laws of cards that other crates cite.
pub mod Laws
pub mod Whole
