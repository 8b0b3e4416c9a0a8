pub mod OfReplay
