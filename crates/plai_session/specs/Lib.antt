pub mod Programs
pub mod Sessions
pub mod Codes
pub mod Work
