pub mod Pairs
pub mod Twos
