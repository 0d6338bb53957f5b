pub mod Semirings
pub mod Items
pub mod Sums
pub mod First
pub mod Words
pub mod Consequences
