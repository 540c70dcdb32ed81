pub mod Text
pub mod Letters
pub mod Table
