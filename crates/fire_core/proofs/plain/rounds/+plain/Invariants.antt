-- Only the depth falls: a use is asked at the depth of its box, and an instance asks one less.
use Rattle.std.specs.Prelude.{◌+◌, ◌*◌, length}
use Rattle.codex_values.specs.Store.{Keeps, values_of}
use Rattle.two_d.specs.Meaning.{mean, pulled}
use Rattle.two_d.specs.Trails.{KeepsTrails, trails_of}
use Rattle.fire_core.specs.inner.Look.{inputs_at}
use Rattle.fire_core.specs.inner.Plain.{CellsFit, IsRound, IsRowOf, effects_in}
use Rattle.fire_core.specs.inner.Rows.{RowFits, row_of}
use Rattle.fire_core.proofs.plain.rounds.+plain.Given as goal

abbrev pub decreases-mean_at : goal.decreases-mean_at
decreases-mean_at l = 4 * l.depth

abbrev pub decreases-fired : goal.decreases-fired
decreases-fired l = 4 * l.depth + 1

abbrev pub decreases-next_round : goal.decreases-next_round
decreases-next_round l = 4 * l.depth + 2

abbrev pub decreases-pulled : goal.decreases-pulled
decreases-pulled l = 4 * l.depth + 3

abbrev pub invariant-next_round-loop-bx : goal.invariant-next_round-loop-bx
invariant-next_round-loop-bx l = record {
  round : IsRound (values_of l.values) (trails_of l.trails) (mean l.program l.depth) l.row.kind
      (effects_in l.program (values_of l.initial.values) (trails_of l.initial.trails) (row_of l.row)) l.bx l.round;
  fits : CellsFit (length l.values) (length l.trails) l.round.cells.items;
  keeps : Keeps l.initial.values l.values;
  keeps_trails : KeepsTrails l.initial.trails l.trails;
}

abbrev pub invariant-pulled-loop : goal.invariant-pulled-loop
invariant-pulled-loop l = record {
  row : IsRowOf (values_of l.values) (trails_of l.trails) l.kind (inputs_at (values_of l.initial.values) l.inputs)
      (pulled l.program (mean l.program l.depth) l.kind (inputs_at (values_of l.initial.values) l.inputs) l.counter) (row_of l.row);
  fits : RowFits (length l.values) (length l.trails) (row_of l.row);
  keeps : Keeps l.initial.values l.values;
  keeps_trails : KeepsTrails l.initial.trails l.trails;
}
