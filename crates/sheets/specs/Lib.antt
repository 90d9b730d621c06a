pub mod Claims
pub mod Faults
pub mod Fields
pub mod Format
