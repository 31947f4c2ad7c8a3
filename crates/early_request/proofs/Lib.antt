pub mod FitAnswerLaws
pub mod FreshLaws
pub mod RowsLaws
