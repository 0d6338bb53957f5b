pub mod Uniting
