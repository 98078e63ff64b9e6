pub mod Sheet
pub mod Cuts
pub mod Pieces
pub mod SameCurve
pub mod InSheets
pub mod Steps
