pub mod Building
pub mod Singles
pub mod Joining
