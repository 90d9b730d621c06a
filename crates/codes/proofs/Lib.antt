pub mod Decided
pub mod Steps
pub mod Told
