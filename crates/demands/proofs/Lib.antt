pub mod Demand2
pub mod Demand3
pub mod Facts
pub mod InTurn
pub mod NoBefore
pub mod Replies
pub mod ShownResults
