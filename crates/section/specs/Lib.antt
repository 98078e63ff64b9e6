pub mod EverywhereConstant
pub mod ConstantGrad
pub mod QuadraticPart
pub mod ConvexMonotonePart
pub mod Combination
pub mod Section
