pub mod Euclid
pub mod Inverses
