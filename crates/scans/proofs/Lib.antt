pub mod Counts
pub mod Waiting
pub mod Filling
pub mod Noting
pub mod Turns
pub mod Raising
pub mod Taking
