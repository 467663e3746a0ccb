pub mod Counted
pub mod Joined
pub mod Named
pub mod Places
pub mod Fitting
pub mod Whole
pub mod Together
