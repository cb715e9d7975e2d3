mod Cells
mod Composed
mod Constructed
mod Copied
mod Demands
mod Distinct
mod Equated
mod Grounded
mod ListItems
mod Made
mod Meant
mod Occurring
pub mod Tables
mod TermKinds
mod Tests
mod Turns
mod Valued
mod Variables
