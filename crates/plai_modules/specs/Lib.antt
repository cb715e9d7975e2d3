pub mod Steps
pub mod Importing
pub mod KeySets
pub mod Loading
pub mod Outcomes
