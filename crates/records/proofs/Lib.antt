pub mod Formed
pub mod Preserved
pub mod Held
pub mod Walking
pub mod Walks
