pub mod Pads
pub mod Outputs
