pub mod Declared
pub mod Slots
pub mod Implementations
