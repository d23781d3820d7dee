pub mod Wires
pub mod Numbering
pub mod Rows
pub mod Holes
pub mod Planned
pub mod Orders
mod PlanExamples
