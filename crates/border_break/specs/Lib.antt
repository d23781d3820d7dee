pub mod Borders
pub mod Breaks
