pub mod Table
pub mod Sample
pub mod WrongLoads
pub mod WrongReaders
