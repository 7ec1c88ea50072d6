pub mod Columns
pub mod Forcing
pub mod Turning
