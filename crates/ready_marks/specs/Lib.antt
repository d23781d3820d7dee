pub mod Slots
pub mod Ways
pub mod inner
