pub mod Ends
pub mod Longer
