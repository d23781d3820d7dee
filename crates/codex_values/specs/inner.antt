pub mod ReaderStates
pub mod Pieces
pub mod Codes
