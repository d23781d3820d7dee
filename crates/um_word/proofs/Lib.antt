pub mod Arrays
mod Examples
pub mod Live
pub mod Orderly
pub mod Rules
pub mod Runs
pub mod Scrolls
pub mod Leading
pub mod Limited
pub mod Moments
pub mod Over
pub mod Splits
pub mod Outputs
pub mod Formed
