pub mod Names
pub mod Lawful
pub mod Facts
pub mod One
pub mod Example
pub mod Over
pub mod Walk
pub mod Closed
