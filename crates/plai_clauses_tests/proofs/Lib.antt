pub mod WithoutProperties
