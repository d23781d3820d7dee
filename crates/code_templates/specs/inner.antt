pub mod Freely
pub mod Spent
