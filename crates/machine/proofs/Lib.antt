pub mod Calls
pub mod Checks
pub mod Edges
pub mod Machine
pub mod Marked
pub mod Traps
