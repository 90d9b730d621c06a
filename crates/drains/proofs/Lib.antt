pub mod Counts
pub mod Draining
pub mod Picking
