pub mod Held
pub mod Settling
pub mod Stepping
pub mod Underway
