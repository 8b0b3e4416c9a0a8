pub mod Reach
pub mod Lent
