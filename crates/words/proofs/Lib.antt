pub mod Parting
pub mod Mix
