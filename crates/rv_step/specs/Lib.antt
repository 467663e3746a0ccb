pub mod Machine
pub mod Segments
pub mod Outcomes
pub mod Steps
pub mod Memory
pub mod Bytes
