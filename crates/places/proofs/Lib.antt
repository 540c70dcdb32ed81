-- The laws of places that other crates cite.
pub mod Laws
