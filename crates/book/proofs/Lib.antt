-- The laws that callers cite: Header on a book's header, Laws on the reader's answers, Turns on a loop over the records, Records on the records that are left, Places on the parts of a record, Written on what is written, RoundTrip on reading what was written.
pub mod Header
pub mod Laws
pub mod Places
pub mod Turns
pub mod Records
pub mod Written
pub mod RoundTrip
