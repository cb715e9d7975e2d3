mod Variables
mod Parts
mod EditTerms
mod Formed
mod Taken
mod Changed
mod Touched
