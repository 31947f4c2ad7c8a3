pub mod ReportLaws
pub mod Edges
