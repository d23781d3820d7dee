pub mod Image
pub mod Refusals
pub mod Counting
pub mod Rules
pub mod Laws
pub mod inner
