pub mod LowerLaws
pub mod StepLaws
pub mod RowLaws
pub mod Computed
mod Edges
