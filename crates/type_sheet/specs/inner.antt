pub mod Subjects
pub mod Carried
pub mod Cut
pub mod Words
