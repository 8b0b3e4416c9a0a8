pub mod Places
pub mod Objects
pub mod Tables
pub mod Implied
pub mod Parts
pub mod Filling
