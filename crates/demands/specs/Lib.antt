pub mod Splitting
pub mod Chains
pub mod Sheets
pub mod Texts
pub mod Words
pub mod Cases
