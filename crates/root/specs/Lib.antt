pub mod Root
pub mod Steps
pub mod Nearest
