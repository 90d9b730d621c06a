pub mod Ranks
pub mod Order
pub mod Pigeons
pub mod Tables
pub mod Changes
pub mod Heaviest
