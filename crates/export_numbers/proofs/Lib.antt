pub mod IntoLaws
