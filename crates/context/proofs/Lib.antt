pub mod Filling
pub mod Implied
pub mod Objects
pub mod Parts
pub mod Places
pub mod Tables
