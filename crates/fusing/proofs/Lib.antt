pub mod Judging
pub mod Leaving
pub mod Words
pub mod Fusing
pub mod Marks
pub mod Halves
