pub mod Areas
pub mod Moving
pub mod Values
pub mod Faults
pub mod Acting
