pub mod Number
pub mod Polynomial
pub mod Pair
pub mod Change
pub mod Chain
pub mod Every
