pub mod Doubling
pub mod BlockSteps
