pub mod State
pub mod Constants
pub mod Arithmetic
pub mod Branches
pub mod Calls
pub mod Step
pub mod Later
