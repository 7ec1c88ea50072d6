pub mod Fitting
pub mod Forcing
pub mod Answering
pub mod Determined
pub mod Reports
