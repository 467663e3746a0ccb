pub mod Calling
pub mod Lines
pub mod Placing
pub mod Near
