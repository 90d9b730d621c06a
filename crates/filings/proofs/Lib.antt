pub mod Parting
pub mod Staying
pub mod Settling
pub mod Keeping
