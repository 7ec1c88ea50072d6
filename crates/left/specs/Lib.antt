pub mod Digits
pub mod Left
