use Rattle.std.proofs.Common.{◌≡◌, ◌+◌, ◌<◌, vec_len}
use Rattle.std.specs.Prelude.{All}
use Rattle.um_word.specs.State.{words_in}
use Rattle.array_store.specs.Parts.{listed}
use Rattle.array_store.specs.inner.Slots.{slot_arrays, arrays_put, AllFit}
use Rattle.array_store.proofs.store.fill_slots.Given as goal

abbrev pub invariant-loop-id : goal.invariant-loop-id
invariant-loop-id l = record {
  put : arrays_put (listed l.arrays.items) (slot_arrays l.slots.items) ≡ arrays_put (listed l.initial.arrays.items) (slot_arrays l.initial.slots.items);
  sum : l.count + words_in (listed l.arrays.items) ≡ words_in (listed l.initial.arrays.items);
  within : All (λ a. a.0 < vec_len l.initial.slots) l.arrays.items;
  len : vec_len l.slots ≡ vec_len l.initial.slots;
  fit : AllFit (slot_arrays l.initial.slots.items) → AllFit (slot_arrays l.slots.items);
}

abbrev pub decreases-loop-id : goal.decreases-loop-id
decreases-loop-id l = goal.left-loop-id l
