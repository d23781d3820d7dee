-- What is true of every machine.
use Rattle.std.proofs.Common.{◌≡◌, ◌<◌, ◌^◌, ℕ, length}
use Rattle.std.specs.Prelude.{slice_index}
use Rattle.um_word.specs.State.{array_at}
use Rattle.array_store.specs.StoreView.{StoreView, IsStore}
use Rattle.um_machine.specs.MachineView.{MachineView, IsWhole}

-- what the store of a machine holds
abbrev pub held_of : MachineView → StoreView
held_of m = record { arrays = m.arrays; identifiers = m.identifiers; limits = m.limits }

pub whole_of : (m : MachineView) → length m.registers ≡ 8 → ((k : ℕ) → slice_index m.registers k < 2 ^ 32) →
    m.finger < 2 ^ 32 → IsStore (held_of m) → IsWhole m
whole_of m eight each finger held = record {
  well_formed = λ rest out. record {
    eight = eight;
    registers = each;
    zero_there = (array_at m.arrays 0, held.zero_there);
    platters = held.platters;
  };
  finger = finger;
  orderly = held.orderly;
  arrays_limit = held.arrays_limit;
  words_limit = held.words_limit;
}
