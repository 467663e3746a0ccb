pub mod Conditions
pub mod Opening
pub mod Sections
pub mod Streams
