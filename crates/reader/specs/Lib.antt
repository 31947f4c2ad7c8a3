pub mod Read
pub mod Word
pub mod Closer
pub mod Statement
pub mod Record
pub mod File
