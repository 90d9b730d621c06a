pub mod Passed
pub mod Pairs
