pub mod Flags
pub mod Places
pub mod Dirty
pub mod Links
pub mod Changes
pub mod Moves
pub mod Arcs
