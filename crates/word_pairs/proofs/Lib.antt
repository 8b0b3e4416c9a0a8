pub mod Chunks
pub mod Makes
pub mod Lowest
pub mod Folds
pub mod Found
