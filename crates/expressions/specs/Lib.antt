pub mod Form
pub mod Value
pub mod Steps
