pub mod Mapping
pub mod Pushing
pub mod Dispatch
