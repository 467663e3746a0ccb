pub mod Frame
pub mod Operands
pub mod Computing
pub mod Moving
pub mod Holds
pub mod Leading
