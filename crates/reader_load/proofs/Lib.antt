pub mod LoadLaws
pub mod Edges
