pub mod Cubes
