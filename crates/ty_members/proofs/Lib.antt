pub mod Owning
pub mod Tables
pub mod Prefixed
pub mod Answered
pub mod Resolving
