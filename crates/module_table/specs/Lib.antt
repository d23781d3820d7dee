pub mod Answers
pub mod Drawn
pub mod inner
