pub mod LabelLaws
pub mod TranscriptLaws
pub mod TextLaws
pub mod Edges
