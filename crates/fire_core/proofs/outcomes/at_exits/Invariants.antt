-- What the exits so far carry.
use Rattle.std.specs.Prelude.{ℕ, List, take}
use Rattle.codex_values.specs.Value.{Value}
use Rattle.two_d.specs.Meaning.{carried_by}
use Rattle.two_d.specs.Steps.{wires}
use Rattle.two_d.specs.Trails.{Trail}
use Rattle.fire_core.specs.inner.Outcomes.{IsCarried, CarriedFits}
use Rattle.fire_core.specs.inner.Rows.{row_of, instance_in, RowFits}
use Rattle.fire_core.proofs.outcomes.at_exits.Given as goal

abbrev pub invariant-loop-exit : goal.invariant-loop-exit
invariant-loop-exit l = record {
  carried : (values : List Value) (trails : List Trail) → IsCarried values l.found (carried_by (wires (instance_in values trails (row_of l.row))) (take l.exit-index l.exits));
  fits : (n t : ℕ) → RowFits n t (row_of l.row) → CarriedFits n l.found;
}
