pub mod Block
pub mod Made
pub mod Order
pub mod Refused
pub mod Stopped
pub mod Texts
