pub mod Method
pub mod Table
pub mod Check
pub mod Sound
pub mod Buffers
pub mod Safe
