pub mod Tables
pub mod SoundRows
pub mod Exactly
pub mod Reached
pub mod Operations
pub mod Raising
mod Worked
