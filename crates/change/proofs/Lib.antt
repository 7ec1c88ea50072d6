pub mod Answering
pub mod Combining
pub mod Determined
pub mod NotProper
pub mod Following
