pub mod Above
pub mod Known
pub mod Steps
