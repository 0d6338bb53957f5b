pub mod Shifting
pub mod Opening
pub mod Growing
pub mod Gathering
