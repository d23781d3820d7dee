pub mod Gaps
pub mod Closing
pub mod Bounds
pub mod OneBreak
