use Rattle.two_d.specs.Frames.{InRow}
use Rattle.std.proofs.Common.{◌≡◌}
use Rattle.grid_reader.proofs.frame.is_bottom.Given as goal

abbrev pub invariant-loop-col : goal.invariant-loop-col
invariant-loop-col l = InRow (λ b. b ≡ 46) l.grid l.row l.left l.col
