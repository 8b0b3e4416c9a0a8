pub mod Beats
pub mod Cases
pub mod Conclusion
pub mod Kept
pub mod Program
pub mod Rows
pub mod Size
