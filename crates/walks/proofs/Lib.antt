pub mod Before
pub mod Going
pub mod Whole
pub mod Stretching
pub mod Led
