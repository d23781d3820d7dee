pub mod FiringLemmas
pub mod RunLemmas
pub mod PickLemmas
