pub mod CommandLines
pub mod Commands
pub mod Replies
pub mod Course
pub mod Session
pub mod Debugging
pub mod inner
