pub mod Rest
pub mod Checks
pub mod Counts
pub mod Outcomes
pub mod Sound
pub mod Nodes
pub mod Defaults
pub mod Unique
