pub mod Boxes
pub mod Faults
pub mod Frames
pub mod Rows
pub mod inner
