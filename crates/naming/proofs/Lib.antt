pub mod Last
pub mod Moved
pub mod Unnamed
pub mod Tables
pub mod Answers
