pub mod Leading
pub mod Marking
pub mod Spreading
pub mod First
