mod Worked
pub mod Keys
pub mod Through
pub mod Counts
pub mod Spelling
pub mod Implementing
