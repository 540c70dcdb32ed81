-- Laws of the names as a list, and of the table that holds them.
pub mod Names
pub mod Table
