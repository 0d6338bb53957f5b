pub mod Carries
pub mod Entries
