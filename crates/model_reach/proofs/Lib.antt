pub mod ReachLaws
pub mod ReadLaws
pub mod StoreLaws
pub mod Computed
pub mod Edges
