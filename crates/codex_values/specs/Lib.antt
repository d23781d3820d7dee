pub mod Value
pub mod Store
pub mod Tokens
pub mod Reading
pub mod Writing
pub mod inner
