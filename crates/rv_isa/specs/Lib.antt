pub mod Operands
pub mod Formats
pub mod Instructions
pub mod Parts
pub mod Rows
pub mod Assembly
