pub mod Symbols
pub mod Patterns
pub mod Kept
pub mod Stops
pub mod Examples
