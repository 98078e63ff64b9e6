pub mod Accepted
pub mod Unique
pub mod InNumbers
pub mod Careful
pub mod Safe
pub mod Finite
pub mod Knots
