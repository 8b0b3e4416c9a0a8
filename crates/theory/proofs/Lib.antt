pub mod Canonical
pub mod Exploration
pub mod Implications
pub mod Lists
