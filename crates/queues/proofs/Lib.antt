pub mod Orders
pub mod Memory
pub mod Slotted
pub mod Looking
