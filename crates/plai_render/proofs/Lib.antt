pub mod Apart
pub mod Lifted
pub mod Moves
pub mod NameTexts
pub mod Ordered
