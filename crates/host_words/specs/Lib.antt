pub mod Answers
pub mod Reported
pub mod Walked
