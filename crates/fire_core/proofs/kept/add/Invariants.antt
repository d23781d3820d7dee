-- The boxes so far have been looked at.
use Rattle.std.specs.Prelude.{ℕ, ◌<◌, length}
use Rattle.ready_marks.specs.Slots.{IsRightAt}
use Rattle.fire_core.specs.inner.Changes.{AreSpread, IsUnsetPast, StaysRight}
use Rattle.fire_core.proofs.kept.add.Given as goal

abbrev pub invariant-loop-bx : goal.invariant-loop-bx
invariant-loop-bx l = record {
  spread : AreSpread l.program l.instances.table (length l.instances.table) l.slots;
  stays : StaysRight l.program l.instances.table l.number l.fn.slots l.slots;
  right : (b : ℕ) → b < l.bx → IsRightAt l.program l.instances.table l.slots l.number b;
  rest : IsUnsetPast l.number l.fn.slots → IsUnsetPast (length l.instances.table) l.slots;
}
