pub mod Least
pub mod Finishing
pub mod Bodies
pub mod Whole
pub mod Names
