pub mod Progress
pub mod Working
