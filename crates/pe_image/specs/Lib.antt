pub mod Conditions
pub mod Sections
pub mod Streams
pub mod Pe
