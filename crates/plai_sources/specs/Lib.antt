pub mod Shapes
pub mod Keys
pub mod Properties
pub mod Operators
pub mod Directives
pub mod Items
pub mod WellFormed
pub mod Answering
