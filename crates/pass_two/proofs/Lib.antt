-- The laws of pass two's loop.
pub mod Loops
pub mod Walk
pub mod Judging
