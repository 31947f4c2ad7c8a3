pub mod HeldLaws
pub mod FillLaws
pub mod KeptLaws
