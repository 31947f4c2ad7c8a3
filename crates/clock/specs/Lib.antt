pub mod Cycle
pub mod Passage
pub mod Wait
pub mod Advance
pub mod Order
