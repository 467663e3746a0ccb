pub mod Ids
pub mod Graphs
pub mod Held
pub mod Twice
pub mod Defined
pub mod Inheriting
