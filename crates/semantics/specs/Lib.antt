pub mod Expressions
pub mod Programs
pub mod AnswerSets
