pub mod Tokens
pub mod Mnemonics
pub mod Lines
pub mod Scopes
pub mod Assembly
pub mod Listing
pub mod TextLines
pub mod inner
