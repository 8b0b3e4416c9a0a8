pub mod Core
pub mod Example
pub mod Output
