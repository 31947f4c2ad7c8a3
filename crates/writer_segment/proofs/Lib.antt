pub mod JoinLaws
pub mod SegmentLaws
