pub mod Opened
pub mod Tables
pub mod ReadBack
pub mod Settled
