pub mod Grammar
pub mod Meaning
pub mod Language
pub mod Writing
pub mod Answers
pub mod States
