-- The laws of pass one's code.
pub mod Laws
