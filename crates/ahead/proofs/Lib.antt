pub mod Keeping
pub mod Doing
