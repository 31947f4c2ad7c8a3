pub mod VariantLaws
pub mod LengthLaws
pub mod StatementLaws
pub mod FootprintLaws
pub mod EffectLaws
pub mod FrameLaws
pub mod PortLaws
