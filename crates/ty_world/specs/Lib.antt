pub mod Numbering
pub mod Repeated
