pub mod Decisions
pub mod First
pub mod Outcomes
pub mod Exceeding
