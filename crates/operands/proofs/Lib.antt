pub mod Loads
pub mod Uniting
