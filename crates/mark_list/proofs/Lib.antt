pub mod Below
mod Summed
