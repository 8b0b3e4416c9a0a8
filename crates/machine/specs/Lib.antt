pub mod Checks
pub mod Machine
pub mod Calls
pub mod Marked
pub mod Edges
pub mod Traps
