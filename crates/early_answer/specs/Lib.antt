pub mod After
pub mod Answered
pub mod Shown
