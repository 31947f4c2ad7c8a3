pub mod PortLaws
pub mod SizeLaws
pub mod FieldLaws
pub mod BackLaws
