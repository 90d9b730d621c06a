pub mod Bounds
pub mod Cells
pub mod Places
pub mod Trackings
pub mod Units
pub mod Fillings
pub mod Mergers
pub mod Turns
