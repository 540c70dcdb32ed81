pub mod Operands
pub mod Kinds
