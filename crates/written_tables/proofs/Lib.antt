pub mod Opened
pub mod ReadBack
pub mod Settled
pub mod Tables
