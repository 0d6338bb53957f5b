pub mod Found
pub mod Scans
