pub mod Result
pub mod Steps
