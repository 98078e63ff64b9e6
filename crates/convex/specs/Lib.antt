pub mod ConvexMonotone2
pub mod ConvexMonotone3
pub mod ConvexMonotone4
pub mod ConvexMonotone4Min
