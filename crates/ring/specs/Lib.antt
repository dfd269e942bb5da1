pub mod Rings
pub mod Sums
pub mod Roots
pub mod Residues
pub mod Primes
