pub mod Rows
pub mod Verdicts
pub mod Groups
pub mod Sides
