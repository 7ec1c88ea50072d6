pub mod Inner
pub mod Sums
