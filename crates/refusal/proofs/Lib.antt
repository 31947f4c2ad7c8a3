pub mod NumberLaws
pub mod Edges
