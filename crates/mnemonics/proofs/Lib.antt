-- The rules of the operation table.
pub mod Search
pub mod Table
pub mod Charts
