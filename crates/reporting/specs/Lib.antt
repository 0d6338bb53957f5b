pub mod Report
pub mod Reporting
