pub mod Expanding
pub mod Found
