pub mod Waits
pub mod Scanned
