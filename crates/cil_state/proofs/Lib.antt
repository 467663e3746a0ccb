pub mod Runs
pub mod Later
pub mod Bodies
