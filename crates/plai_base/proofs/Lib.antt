pub mod Ascending
pub mod Bits
pub mod Masks
pub mod Sets
