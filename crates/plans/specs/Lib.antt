pub mod Calls
pub mod Divided
pub mod Marks
pub mod Model
pub mod Sound
