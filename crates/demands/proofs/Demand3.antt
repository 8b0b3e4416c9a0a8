pub mod Invariant
pub mod Theorem
