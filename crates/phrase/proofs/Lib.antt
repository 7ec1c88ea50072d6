pub mod Readers
