pub mod StoreLaws
pub mod DigitsLaws
pub mod PutLaws
pub mod WriteLaws
pub mod WrittenLaws
pub mod Computed
pub mod Edges
