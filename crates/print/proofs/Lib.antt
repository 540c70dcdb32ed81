-- Laws on the printer's lines.
pub mod Laws
pub mod Short
