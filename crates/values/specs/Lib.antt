pub mod Tests
pub mod Words
pub mod Values
pub mod Refusals
