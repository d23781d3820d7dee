use Rattle.two_d.specs.Frames.{InColumn, IsSideByte}
use Rattle.grid_reader.proofs.frame.is_right.Given as goal

abbrev pub invariant-loop-row : goal.invariant-loop-row
invariant-loop-row l = InColumn IsSideByte l.grid l.col l.top l.row
