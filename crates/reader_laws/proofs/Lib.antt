pub mod FrameLaws
pub mod ReadSoFar
pub mod Reading
pub mod Accepted
