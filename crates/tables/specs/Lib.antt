pub mod Meaning
pub mod Sums
