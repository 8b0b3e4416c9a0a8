pub mod Answers
pub mod NeverBoth
