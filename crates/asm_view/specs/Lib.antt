pub mod Rows
pub mod Hints
pub mod Pages
