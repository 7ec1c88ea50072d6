pub mod Placing
pub mod Answering
pub mod Promises
