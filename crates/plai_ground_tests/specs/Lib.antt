pub mod ByArity
