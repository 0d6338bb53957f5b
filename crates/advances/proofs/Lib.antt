pub mod Steps
pub mod Advancing
pub mod Clear
pub mod Last
pub mod Bare
