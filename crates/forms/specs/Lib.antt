pub mod Shape
pub mod Size
