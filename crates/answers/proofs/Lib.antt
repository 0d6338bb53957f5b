pub mod Leasts
pub mod Remaining
pub mod Accepting
pub mod Shown
pub mod Looking
