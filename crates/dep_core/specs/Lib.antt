pub mod Awaited
pub mod Kept
pub mod Marks
pub mod Noted
pub mod Records
pub mod Sides
pub mod UnderWay
