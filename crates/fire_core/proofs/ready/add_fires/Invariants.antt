-- The firings of the boxes so far are in the list.
use Rattle.std.specs.Prelude.{◌≡◌, ◌++◌, List, map}
use Rattle.codex_values.specs.Value.{Value}
use Rattle.two_d.specs.Programs.{Program, box_of, module_at}
use Rattle.two_d.specs.Trails.{Trail}
use Rattle.fire_core.specs.Events.{events_shown}
use Rattle.fire_core.specs.inner.Ready.{fires_of}
use Rattle.fire_core.specs.inner.Rows.{row_of, instance_in}
use Rattle.fire_core.proofs.ready.add_fires.Given as goal

abbrev pub invariant-loop-bx : goal.invariant-loop-bx
invariant-loop-bx l = record {
  added : (P : Program) (values : List Value) (trails : List Trail) → (module_at P l.row.kind).boxes ≡ map box_of l.boxes →
      events_shown l.events.items ≡ events_shown l.initial.events.items ++ fires_of P (instance_in values trails (row_of l.row)) l.number l.bx;
}
