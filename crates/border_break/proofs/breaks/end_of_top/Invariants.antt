use Rattle.std.proofs.Common.{◌<◌, ◌-◌}
use Rattle.two_d.specs.Frames.{InRow}
use Rattle.border_break.specs.Borders.{IsOfTop}
use Rattle.border_break.proofs.breaks.end_of_top.Given as goal

abbrev pub invariant-run : goal.invariant-run
invariant-run l = (l.corner.col < l.col) × InRow (IsOfTop l.figure) l.grid l.corner.row l.corner.col l.col

abbrev pub decreases-run : goal.decreases-run
decreases-run l = 4097 - l.col
