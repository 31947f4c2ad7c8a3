pub mod FillLaws
pub mod CrewLaws
pub mod VariantLaws
pub mod SweepLaws
pub mod SettledLaws
pub mod Edges
