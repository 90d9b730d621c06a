pub mod Tree
pub mod Entries
pub mod Heaped
