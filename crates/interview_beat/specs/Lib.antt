pub mod Beat
pub mod Running
