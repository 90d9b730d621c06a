pub mod Marked
pub mod Merging
pub mod Founds
pub mod Sparing
pub mod Rounds
pub mod Works
