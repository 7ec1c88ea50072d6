pub mod Inner
pub mod Words
