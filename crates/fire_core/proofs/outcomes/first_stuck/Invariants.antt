-- No box so far is stuck.
use Rattle.std.specs.Prelude.{◌≡◌, None, List}
use Rattle.codex_values.specs.Value.{Value}
use Rattle.two_d.specs.Meaning.{first_below, stuck_of}
use Rattle.two_d.specs.Steps.{fired}
use Rattle.two_d.specs.Trails.{Trail}
use Rattle.fire_core.specs.inner.Rows.{row_of, instance_in}
use Rattle.fire_core.proofs.outcomes.first_stuck.Given as goal

abbrev pub invariant-loop-bx : goal.invariant-loop-bx
invariant-loop-bx l = (values : List Value) (trails : List Trail) → first_below l.bx (λ b. stuck_of (fired (instance_in values trails (row_of l.row)) b)) ≡ None
