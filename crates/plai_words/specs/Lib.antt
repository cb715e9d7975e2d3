pub mod Command
pub mod Given
pub mod Line
pub mod Numbers
pub mod Options
pub mod Taken
