pub mod Members
pub mod Comparisons
pub mod Canon
pub mod Runs
pub mod Ranks
