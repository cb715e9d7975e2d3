pub mod OwnTerms
pub mod Shapes
pub mod Edits
pub mod Scripts
pub mod Readable
pub mod Answering
pub mod Touching
