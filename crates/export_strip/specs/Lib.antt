pub mod Asking
pub mod Places
