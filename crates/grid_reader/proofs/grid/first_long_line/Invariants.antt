use Rattle.std.proofs.Common.{ℕ, ◌<◌}
use Rattle.two_d.specs.Cells.{IsTooLong}
use Rattle.grid_reader.specs.Rows.{rows}
use Rattle.grid_reader.proofs.grid.first_long_line.Given as goal

abbrev pub invariant-loop-i : goal.invariant-loop-i
invariant-loop-i l = (k : ℕ) → k < l.i → IsTooLong (rows l.lines) k → ⊥
