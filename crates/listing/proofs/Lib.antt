pub mod Printing
pub mod Final
