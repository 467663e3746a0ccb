pub mod WordParts
pub mod Rows
pub mod Answer
pub mod WordFits
