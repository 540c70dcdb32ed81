-- The laws of names and terms that other crates cite.
pub mod Laws
pub mod Within
