pub mod Mapping
pub mod Merging
pub mod Composing
