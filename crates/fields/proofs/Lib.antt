-- Laws on the fields of a record that a reader gave.
pub mod Laws
