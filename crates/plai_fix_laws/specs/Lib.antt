pub mod WorkStates
pub mod Changes
pub mod Logs
pub mod Pairs
pub mod Measures
pub mod Queues
pub mod LookUps
