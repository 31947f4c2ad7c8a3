pub mod AnyLaws
