pub mod Writing
pub mod Atoms
