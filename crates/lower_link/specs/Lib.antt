pub mod Realises
pub mod Follows
pub mod Completes
pub mod inner
