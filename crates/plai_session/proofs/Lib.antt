mod Rows
mod Keeping
