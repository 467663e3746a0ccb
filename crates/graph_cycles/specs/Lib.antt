pub mod Ways
pub mod Marks
