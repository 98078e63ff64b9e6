pub mod Seams
pub mod Unique
pub mod InNumbers
pub mod Knots
