pub mod Counts
pub mod Clearing
pub mod After
