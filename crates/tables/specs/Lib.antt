pub mod Algebras
pub mod Triples
pub mod Definitions
pub mod Exactness
