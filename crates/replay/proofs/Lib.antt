pub mod ReplayLaws
pub mod Edges
