pub mod Asking
pub mod Rounds
