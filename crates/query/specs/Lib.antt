pub mod Many
pub mod Query
pub mod Steps
pub mod Strip
