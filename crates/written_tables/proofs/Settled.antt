pub mod Again
pub mod Reading
pub mod Theorem
