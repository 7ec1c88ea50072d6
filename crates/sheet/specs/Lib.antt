pub mod Sheet
pub mod Checks
pub mod Answers
pub mod Steps
