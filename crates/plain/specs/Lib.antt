pub mod Start
pub mod Wake
pub mod Step
pub mod Run
pub mod History
