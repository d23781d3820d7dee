pub mod inner
pub mod Refusals
pub mod Views
