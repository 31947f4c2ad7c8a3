pub mod OutcomeLaws
pub mod Computed
pub mod Edges
