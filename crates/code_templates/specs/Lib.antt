pub mod Lines
pub mod Rows
pub mod Templates
pub mod Laws
pub mod inner
