pub mod Output
pub mod Core
pub mod Ending
pub mod Example
