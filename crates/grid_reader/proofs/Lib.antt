pub mod Bounds
pub mod Joined
pub mod LineCount
pub mod NameLemmas
pub mod Ranges
pub mod ScanLemmas
pub mod SearchLemmas
