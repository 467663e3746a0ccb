pub mod Rows
pub mod Raising
pub mod Looking
