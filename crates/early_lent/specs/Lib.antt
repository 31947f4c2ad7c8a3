pub mod Answered
pub mod Moved
