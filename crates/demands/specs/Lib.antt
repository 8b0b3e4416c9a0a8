pub mod Replies
pub mod InTurn
pub mod Facts
pub mod Demand2
pub mod Demand3
pub mod NoBefore
pub mod ShownResults
