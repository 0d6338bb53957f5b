pub mod Few
pub mod Filtering
