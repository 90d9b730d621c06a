pub mod Outcomes
pub mod Replies
