pub mod Checks
pub mod Moves
pub mod Restrictions
pub mod Laid
pub mod Answers
