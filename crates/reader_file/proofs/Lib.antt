pub mod BodyLaws
pub mod UnnamedLaws
pub mod TargetLaws
pub mod LackLaws
pub mod FileLaws
pub mod KindLaws
