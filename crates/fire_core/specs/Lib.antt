pub mod Events
pub mod Cores
pub mod Kept
pub mod Plain
pub mod inner
