pub mod Actions
pub mod Copies
pub mod InTurn
pub mod Listed
pub mod Lists
pub mod Meaning
pub mod Walks
