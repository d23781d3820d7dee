use Rattle.std.proofs.Common.{◌≡◌}
use Rattle.two_d.specs.Frames.{InColumn}
use Rattle.grid_reader.proofs.box_frame.is_right.Given as goal

abbrev pub invariant-loop-row : goal.invariant-loop-row
invariant-loop-row l = InColumn (λ b. b ≡ 33) l.grid l.col l.top l.row
