pub mod Layout
pub mod Examples
