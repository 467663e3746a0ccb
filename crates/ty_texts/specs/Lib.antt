pub mod Repeats
pub mod FullNames
