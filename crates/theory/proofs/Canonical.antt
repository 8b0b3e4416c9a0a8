pub mod Minimal
pub mod Unique
