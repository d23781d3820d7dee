pub mod Boxes
pub mod Breaks
pub mod Hints
pub mod Pages
pub mod Subjects
