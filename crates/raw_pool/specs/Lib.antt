pub mod ChunkLoan
pub mod Chunks
pub mod PoolLoan
