-- Laws of DC and DS operands: a turn of each reader; and, for other crates, where operands end and what sizes that are not refused can be.
mod Turns
pub mod Within
pub mod Fine
pub mod Texts
pub mod Card
