pub mod Lacks
pub mod Store
