pub mod Closed
