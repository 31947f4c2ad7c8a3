pub mod Words
pub mod Turn
pub mod Due
