pub mod Pairs
pub mod Closure
pub mod Until
