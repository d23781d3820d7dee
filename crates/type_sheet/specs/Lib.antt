pub mod Lines
pub mod Sheets
pub mod Said
pub mod Types
pub mod Wires
pub mod Fits
pub mod Safety
pub mod inner
