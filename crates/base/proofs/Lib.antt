pub mod BoolLaws
pub mod IndexLaws
pub mod ListLaws
pub mod PigeonLaws
pub mod Computed
pub mod Edges
