pub mod Lists
pub mod Keys
pub mod Grouping
pub mod Tested
pub mod Said
