pub mod Solution
pub mod Telling
