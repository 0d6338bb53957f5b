pub mod Tests
pub mod Reached
pub mod Forming
pub mod Lengths
