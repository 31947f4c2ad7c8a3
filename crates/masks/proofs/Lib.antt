pub mod MaskLaws
pub mod Computed
pub mod Edges
