pub mod Formed
pub mod Sides
pub mod Splitting
pub mod Values
pub mod Equality
