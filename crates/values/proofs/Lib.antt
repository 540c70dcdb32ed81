-- The laws that every crate cites.
pub mod Laws
pub mod Sums
pub mod Numbers
