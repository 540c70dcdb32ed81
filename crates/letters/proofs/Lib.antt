-- A test at every number of a range, and the laws of letters that other crates cite.
pub mod Every
pub mod Laws
pub mod Runs
