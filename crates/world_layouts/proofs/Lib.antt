pub mod Placing
pub mod Shallow
