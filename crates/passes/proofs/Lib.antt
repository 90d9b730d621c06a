pub mod Readings
pub mod Fits
pub mod Grounds
