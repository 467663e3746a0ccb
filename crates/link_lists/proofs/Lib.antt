pub mod Growing
pub mod Joining
pub mod Pools
pub mod Relinking
pub mod Steps
