pub mod Tables
pub mod Theorem
pub mod Walks
