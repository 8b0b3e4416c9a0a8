pub mod Sets
pub mod Lectic
pub mod Passing
pub mod Smallest
