-- Laws of addresses.
pub mod Laws
