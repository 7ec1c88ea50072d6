pub mod Spelling
pub mod Running
pub mod Reached
pub mod Exact
pub mod Promises
pub mod Cases
pub mod Writing
