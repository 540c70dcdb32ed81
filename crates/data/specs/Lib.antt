pub mod Runs
pub mod Sizes
pub mod Form
pub mod Text
