pub mod Digits
pub mod Line
pub mod Put
pub mod Write
pub mod Written
