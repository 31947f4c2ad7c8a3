pub mod CloserLaws
pub mod StatementLaws
pub mod SegmentLaws
pub mod NamedLaws
