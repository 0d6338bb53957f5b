pub mod Rules
pub mod Walk
pub mod Reports
pub mod HostWords
