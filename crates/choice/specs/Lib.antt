pub mod Choice
pub mod QuadraticPart
pub mod ConvexPart
pub mod Regions
pub mod Careful
pub mod Totals
pub mod Steps
pub mod Starts
