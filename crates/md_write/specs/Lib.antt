pub mod Heap
pub mod Heaps
pub mod Contents
pub mod Rows
pub mod Stream
pub mod Written
pub mod Opening
pub mod Agreeing
