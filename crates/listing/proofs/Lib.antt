pub mod Text
pub mod Places
pub mod Determined
pub mod Telling
pub mod Cutting
