pub mod Moving
pub mod Scaling
