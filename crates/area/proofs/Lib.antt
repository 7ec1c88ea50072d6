pub mod Copying
pub mod Handing
pub mod Laying
pub mod Reading
