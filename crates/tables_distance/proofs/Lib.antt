pub mod PartLaws
pub mod StoreLaws
pub mod HeldLaws
pub mod FilledLaws
pub mod RefusalLaws
