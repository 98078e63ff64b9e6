pub mod Calendar
pub mod Periods
pub mod Knots
pub mod Building
pub mod InOrder
pub mod SameBuild
pub mod Steps
