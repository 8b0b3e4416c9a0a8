pub mod Cases
pub mod Counting
pub mod Laws
pub mod Theorem
