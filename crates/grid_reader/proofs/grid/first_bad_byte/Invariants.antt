use Rattle.std.proofs.Common.{ℕ, ◌<◌}
use Rattle.two_d.specs.Cells.{MayStand}
use Rattle.grid_reader.proofs.grid.first_bad_byte.Given as goal

abbrev pub invariant-loop-at : goal.invariant-loop-at
invariant-loop-at l = (k : ℕ) → k < l.at → MayStand l.bytes k
