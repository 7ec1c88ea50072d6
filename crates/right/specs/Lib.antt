pub mod Right
pub mod Rows
