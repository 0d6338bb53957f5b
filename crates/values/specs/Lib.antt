pub mod Values
pub mod First
pub mod Consequences
