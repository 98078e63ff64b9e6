pub mod Unique
pub mod Laws
pub mod Finite
pub mod Starts
pub mod Ordinary
