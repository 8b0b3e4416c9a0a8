pub mod Lists
pub mod Sets
pub mod Implications
pub mod Canonical
pub mod Exploration
