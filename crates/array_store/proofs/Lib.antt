pub mod HeldLemmas
pub mod SlotLemmas
pub mod PartLemmas
