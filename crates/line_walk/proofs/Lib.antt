pub mod OfWalk
