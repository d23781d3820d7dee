pub mod Parts
pub mod Definitions
pub mod TextParts
