-- The laws of pieces, and of what the code makes of a statement.
pub mod Laws
pub mod Steps
