pub mod Coded
pub mod Numbers
pub mod Wires
