pub mod ItemsLaws
pub mod OrderLaws
