pub mod Loads
pub mod Outcome
pub mod Reading
pub mod Records
pub mod Steps
