pub mod Demand3Whole
pub mod ShownResultsWhole
pub mod TakingUp
pub mod Trace
