pub mod Stores
pub mod Pieces
pub mod Progress
pub mod TextMap
pub mod Told
