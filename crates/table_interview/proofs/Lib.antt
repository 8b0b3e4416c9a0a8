pub mod Places
pub mod Run
