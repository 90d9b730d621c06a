pub mod Firsts
pub mod Rightly
pub mod Seen
pub mod Singled
pub mod Within
