pub mod AnsweredLaws
pub mod HeldLaws
pub mod ShownLaws
pub mod VariantLaws
