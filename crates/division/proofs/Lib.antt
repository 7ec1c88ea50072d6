pub mod Pieces
pub mod Dividing
pub mod Raising
pub mod Asked
