pub mod Words
pub mod Help
pub mod Statuses
pub mod Outside
pub mod Explaining
