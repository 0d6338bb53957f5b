pub mod Marks
pub mod Mapping
pub mod Uniting
pub mod Making
