pub mod Fields
pub mod Told
pub mod Extents
pub mod Seen
pub mod Types
pub mod Loading
pub mod Laws
