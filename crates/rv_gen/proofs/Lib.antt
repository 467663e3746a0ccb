pub mod Near
pub mod Encoded
pub mod Tests
