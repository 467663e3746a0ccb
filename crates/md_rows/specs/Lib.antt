pub mod Tables
pub mod Widths
pub mod Cells
pub mod Reading
pub mod Fits
