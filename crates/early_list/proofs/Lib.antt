pub mod AnswerWordLaws
pub mod KeepsLaws
pub mod GoingLaws
pub mod Edges
