pub mod Demand3Whole
pub mod TakingUp
pub mod Trace
pub mod ShownResultsWhole
