pub mod Interpretations
pub mod Homomorphisms
pub mod Effects
pub mod Stacks
pub mod Readings
pub mod Masks
pub mod Again
pub mod Links
