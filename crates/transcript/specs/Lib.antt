pub mod Label
pub mod Transcript
