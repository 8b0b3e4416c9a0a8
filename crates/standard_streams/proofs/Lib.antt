pub mod Answers
pub mod First
