pub mod Lengths
pub mod Puts
pub mod Steps
pub mod Verdict
