-- Laws of operand forms.
pub mod Laws
