-- The theorems.
pub mod Raising
mod Outcomes
pub mod Judged
pub mod Accepted
mod RaisedText
mod Lines
mod Texts
mod RaisedStatements
mod RaisedCards
mod RaisedPasses
mod Started
pub mod Grow
pub mod Readable
pub mod Untouched
pub mod Stored
pub mod Sums
mod Numbers
pub mod Fields
pub mod Entry
pub mod ToldOnce
pub mod Moved
pub mod Demand3
