pub mod Words
pub mod Marks
pub mod Overlay
pub mod Every
pub mod Sizes
pub mod OneOutcome
