use Rattle.std.proofs.Common.{◌≡◌, map}
use Rattle.grid_reader.specs.Rows.{rows}
use Rattle.grid_reader.proofs.grid.lines_of.Given as goal

abbrev pub invariant-loop-line : goal.invariant-loop-line
invariant-loop-line l = rows l.lines.items ≡ map (λ line. line.now) l.yielded
