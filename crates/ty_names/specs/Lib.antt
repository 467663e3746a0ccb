pub mod Modules
pub mod Definitions
pub mod Nesting
pub mod Escapes
pub mod TypeTexts
pub mod References
