pub mod Book
pub mod Reading
pub mod Records
pub mod Writing
