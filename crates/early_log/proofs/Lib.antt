pub mod LengthLaws
pub mod AnyLaws
pub mod PlaceLaws
pub mod HeldLaws
pub mod SpreadLaws
pub mod NotedLaws
pub mod RunningLaws
pub mod Edges
