pub mod Cases
pub mod Digits
pub mod Laws
