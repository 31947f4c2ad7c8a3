pub mod PathLaws
pub mod DeltaLaws
pub mod DistanceLaws
pub mod WordLaws
pub mod ConflictLaws
