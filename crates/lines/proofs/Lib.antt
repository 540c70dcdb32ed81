-- The laws of lines that other crates cite.
pub mod Laws
