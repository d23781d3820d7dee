use Rattle.std.proofs.Common.{◌≡◌, vec_len}
use Rattle.std.specs.FinMap as map
use Rattle.array_store.specs.inner.Slots.{slot_arrays}
use Rattle.array_store.proofs.store.empty_slots.Given as goal

abbrev pub invariant-loop : goal.invariant-loop
invariant-loop l = record {
  empty : slot_arrays l.slots.items ≡ map.empty;
  len : vec_len l.slots ≡ l.counter;
}
