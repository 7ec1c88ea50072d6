pub mod Entries
pub mod Pascal
