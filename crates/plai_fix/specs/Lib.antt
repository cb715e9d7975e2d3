pub mod Evaluating
pub mod Stops
