pub mod Fours
pub mod Lanes
