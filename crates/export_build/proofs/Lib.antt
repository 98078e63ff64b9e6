pub mod Across
pub mod Columned
pub mod Enough
pub mod Unique
pub mod Monthly
