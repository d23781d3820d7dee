pub mod Answers
pub mod Inks
pub mod Layouts
pub mod Legs
pub mod Pages
pub mod Sets
pub mod Sizes
