pub mod Passing
pub mod Search
pub mod Joining
pub mod Rounds
pub mod Least
