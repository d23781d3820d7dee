pub mod Inputs
pub mod Head
pub mod Reading
