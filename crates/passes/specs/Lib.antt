pub mod Cards
pub mod One
pub mod Sound
pub mod Two
pub mod Assembly
