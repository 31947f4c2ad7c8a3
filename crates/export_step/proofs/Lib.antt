pub mod StepLaws
pub mod Computed
pub mod Edges
