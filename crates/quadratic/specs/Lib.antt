pub mod Parabola
pub mod Quadratic
pub mod QuadraticMin
pub mod Exact
