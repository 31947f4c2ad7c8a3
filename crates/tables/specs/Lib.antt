pub mod Conflict
pub mod Distance
pub mod Word
pub mod Outcome
