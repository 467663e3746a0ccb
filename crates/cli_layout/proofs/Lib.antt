pub mod Gathering
pub mod ExtentLaws
pub mod PartLaws
pub mod Loads
pub mod LaidTypes
pub mod Instances
pub mod Same
