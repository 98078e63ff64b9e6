pub mod Curve
pub mod Build
