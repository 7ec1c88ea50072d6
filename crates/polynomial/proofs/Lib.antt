pub mod Lowest
pub mod Moduli
pub mod Acceptance
pub mod Filling
pub mod Below
pub mod Greatest
