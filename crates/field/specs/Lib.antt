pub mod Inverses
pub mod Refusals
pub mod Sizes
