pub mod Machines
pub mod Lines
pub mod Passing
pub mod Starting
pub mod Whole
