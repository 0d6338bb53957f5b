pub mod Cases
pub mod Concluding
