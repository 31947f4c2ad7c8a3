pub mod Unpack
pub mod Ports
pub mod Pack
pub mod Reach
pub mod Shared
pub mod Rows
