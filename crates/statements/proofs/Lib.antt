-- The laws of statements that other crates cite, and the cases of their matches.
pub mod Laws
pub mod Cases
