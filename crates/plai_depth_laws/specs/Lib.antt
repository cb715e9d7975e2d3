pub mod Skeletons
pub mod Order
pub mod OrderTest
pub mod Moves
pub mod Described
pub mod Operations
pub mod DepthK
pub mod Examples
