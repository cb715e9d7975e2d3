pub mod Meaning
pub mod Evaluation
pub mod LeastTable
pub mod Facts
pub mod Stops
pub mod Walk
pub mod Cost
pub mod Answering
