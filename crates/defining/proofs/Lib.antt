-- The laws of a line's name.
pub mod Laws
