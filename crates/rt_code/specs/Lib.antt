pub mod Conventions
pub mod Effects
pub mod Code
