pub mod Count
pub mod Store
pub mod Piece
pub mod Fault
pub mod Calls
pub mod Mem
pub mod Host
pub mod Stream
