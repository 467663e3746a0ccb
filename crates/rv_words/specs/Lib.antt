pub mod Linked
pub mod Placing
pub mod Words
pub mod Steps
pub mod Stands
pub mod Groups
pub mod Loaded
pub mod Runs
