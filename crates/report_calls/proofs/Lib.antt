pub mod Asked
pub mod Parts
pub mod Final
