pub mod Rows
pub mod Model10
pub mod Sorted
pub mod Charts
