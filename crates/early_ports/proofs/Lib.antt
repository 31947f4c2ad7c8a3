pub mod NameLaws
pub mod MapLaws
pub mod CrossLaws
pub mod Computed
pub mod Edges
