pub mod Laying
pub mod Planning
pub mod Rows
pub mod Taking
