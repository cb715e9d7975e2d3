pub mod Values
pub mod TermSlots
pub mod Equality
