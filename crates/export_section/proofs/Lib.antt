pub mod Copies
pub mod Puts
pub mod Unique
