pub mod Courses
pub mod Lined
pub mod inner
