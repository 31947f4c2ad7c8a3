pub mod Desk
pub mod Layout
