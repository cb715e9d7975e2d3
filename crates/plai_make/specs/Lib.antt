pub mod Draws
pub mod Clauses
pub mod Programs
