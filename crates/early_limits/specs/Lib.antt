pub mod Limit
pub mod Ahead
