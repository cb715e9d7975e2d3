pub mod Lists
pub mod Described
pub mod Shapes
pub mod Pushed
