pub mod Pairing
pub mod Asking
