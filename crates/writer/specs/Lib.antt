pub mod Bytes
pub mod File
pub mod Fields
pub mod Back
