pub mod Rings
pub mod inner
