pub mod Numbers
pub mod Lines
pub mod Queries
pub mod Texts
pub mod Unique
pub mod InNumbers
