pub mod Words
pub mod Classes
pub mod Code
pub mod Rows
pub mod Sound
