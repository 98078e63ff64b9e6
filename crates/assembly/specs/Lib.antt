pub mod Sections
pub mod Making
pub mod Steps
pub mod Careful
pub mod Knots
pub mod Starts
