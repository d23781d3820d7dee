use Rattle.std.proofs.Common.{◌<◌, ◌-◌}
use Rattle.two_d.specs.Frames.{InRow, IsTopByte}
use Rattle.grid_reader.proofs.frame.end_of_top.Given as goal

abbrev pub invariant-run : goal.invariant-run
invariant-run l = (l.corner.col < l.col) × InRow IsTopByte l.grid l.corner.row l.corner.col l.col

abbrev pub decreases-run : goal.decreases-run
decreases-run l = 4097 - l.col
