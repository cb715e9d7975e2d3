pub mod Tables
pub mod Told
pub mod Solving
pub mod Marks
pub mod Moves
