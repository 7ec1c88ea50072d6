pub mod Walking
pub mod Choosing
