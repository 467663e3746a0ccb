pub mod Modules
pub mod Finished
