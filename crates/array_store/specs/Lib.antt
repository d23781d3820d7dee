pub mod StoreView
pub mod Refusals
pub mod Parts
pub mod inner
