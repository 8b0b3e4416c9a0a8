pub mod Answers
pub mod Contradiction
