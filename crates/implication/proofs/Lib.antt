pub mod Closure
pub mod Pairs
pub mod Until
