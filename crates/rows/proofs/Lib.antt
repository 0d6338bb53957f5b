pub mod Words
pub mod Parts
pub mod Single
pub mod Tables
pub mod Indexing
