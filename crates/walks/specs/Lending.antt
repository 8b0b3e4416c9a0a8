-- The walks of the functions that lend a struct and answer with an enum, one for each shape of parameters: the struct is read, a call is
-- made over it by value, and what it gives back is stored or returned.
pub mod Stepping
pub mod Accepting
pub mod Rejecting
pub mod Filling
pub mod Asking
