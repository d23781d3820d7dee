pub mod Pushed
pub mod Short
pub mod Window
pub mod Added
