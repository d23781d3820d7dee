use Rattle.std.proofs.Common.{◌≡◌, ◌<◌, ◌-◌}
use Rattle.two_d.specs.Frames.{InRow}
use Rattle.grid_reader.proofs.box_frame.end_of_top.Given as goal

abbrev pub invariant-run : goal.invariant-run
invariant-run l = (l.corner.col < l.col) × InRow (λ b. b ≡ 61) l.grid l.corner.row l.corner.col l.col

abbrev pub decreases-run : goal.decreases-run
decreases-run l = 4097 - l.col
