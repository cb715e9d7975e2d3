pub mod Evaluated
pub mod Evaluations
pub mod GrownPairs
pub mod Shifted
pub mod Works
pub mod Finished
