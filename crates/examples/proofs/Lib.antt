-- The examples, proved.
pub mod Proved
pub mod WrongLoads
pub mod WrongReaders
