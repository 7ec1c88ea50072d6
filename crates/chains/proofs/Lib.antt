pub mod Counting
pub mod Walking
pub mod Answering
pub mod Promises
