pub mod Functors
pub mod Values
pub mod TermOrder
pub mod Small
pub mod Nodes
