pub mod TurnLaws
pub mod IntoLaws
pub mod HeldLaws
mod FromLaws
pub mod RangeLaws
pub mod RoundLaws
pub mod Computed
pub mod Edges
