pub mod Row
pub mod Lower
