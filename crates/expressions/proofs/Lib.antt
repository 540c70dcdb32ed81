-- Laws of expressions: how they are read, the value that the code comes to, and what callers cite.
pub mod Reading
pub mod Laws
mod Same
mod Turns
