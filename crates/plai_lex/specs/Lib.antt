pub mod Bytes
pub mod Classes
pub mod Numbers
pub mod Quoted
pub mod Lengths
pub mod Pieces
pub mod Tokens
pub mod Nexts
