pub mod Outcome
pub mod Ties
