pub mod Names
pub mod Cross
