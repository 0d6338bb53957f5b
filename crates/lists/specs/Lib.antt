pub mod Lists
pub mod Sorted
