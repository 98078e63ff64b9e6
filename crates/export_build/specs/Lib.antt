pub mod Building
pub mod Columns
pub mod Growing
pub mod OneSheet
pub mod Settings
pub mod Steps
pub mod ByMonths
