pub mod Entries
pub mod Subsets
pub mod Marks
pub mod Answers
pub mod Morphisms
pub mod Again
pub mod Exactness
