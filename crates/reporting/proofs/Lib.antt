pub mod Newest
pub mod Plainly
pub mod Early
