pub mod LengthLaws
pub mod LimitLaws
mod AheadLaws
