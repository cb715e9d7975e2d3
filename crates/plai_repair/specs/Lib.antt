pub mod Lost
pub mod Gathering
pub mod Removal
pub mod Gained
pub mod Whole
pub mod Opened
pub mod Reached
pub mod Unchanged
