use Rattle.std.proofs.Common.{◌<◌, ◌-◌}
use Rattle.two_d.specs.Frames.{InColumn}
use Rattle.border_break.specs.Borders.{IsOfSide}
use Rattle.border_break.proofs.breaks.end_of_left.Given as goal

abbrev pub invariant-run : goal.invariant-run
invariant-run l = (l.corner.row < l.row) × InColumn (IsOfSide l.figure) l.grid l.corner.col l.corner.row l.row

abbrev pub decreases-run : goal.decreases-run
decreases-run l = 262146 - l.row
