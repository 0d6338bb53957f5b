pub mod Requests
pub mod Frames
