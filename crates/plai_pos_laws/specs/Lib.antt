pub mod Assignments
pub mod Described
pub mod Groundness
pub mod Truths
