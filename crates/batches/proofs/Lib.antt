pub mod Steps
pub mod Words
pub mod Gathering
