pub mod Promise
pub mod Replies
pub mod Steps
