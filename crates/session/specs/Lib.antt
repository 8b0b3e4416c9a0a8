pub mod Choice
pub mod Limits
pub mod Records
pub mod Refusals
pub mod Turns
