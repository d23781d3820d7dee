pub mod Boxes
pub mod Cells
pub mod PageLemmas
pub mod Named
