pub mod Lectic
pub mod Passing
pub mod Sets
pub mod Smallest
pub mod Words
