pub mod Text
pub mod Page
