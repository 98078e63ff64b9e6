pub mod Between
pub mod Column
pub mod Entry
pub mod SameStrip
pub mod Steps
pub mod Telescope
