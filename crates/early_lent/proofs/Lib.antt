pub mod MovedLaws
pub mod RowsLaws
pub mod Edges
