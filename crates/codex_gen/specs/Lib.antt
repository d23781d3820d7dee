pub mod Answers
pub mod Generated
pub mod inner
