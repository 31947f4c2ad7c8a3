pub mod Computed
pub mod AnswerLaws
pub mod Edges
