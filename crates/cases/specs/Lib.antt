pub mod Models
pub mod Cases
