pub mod Programs
pub mod Before
