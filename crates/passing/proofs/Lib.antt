pub mod Steps
pub mod Reports
pub mod Stops
