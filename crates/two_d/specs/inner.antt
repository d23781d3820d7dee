pub mod TableParts
pub mod Codes
pub mod Ends
pub mod NameLists
pub mod Orders
pub mod TableFaults
