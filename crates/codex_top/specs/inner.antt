pub mod FirstBytes
pub mod Instances
pub mod Reports
pub mod Selftests
