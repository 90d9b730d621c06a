pub mod Limits
pub mod Answering
pub mod Telling
pub mod Leading
pub mod Turns
pub mod Longer
