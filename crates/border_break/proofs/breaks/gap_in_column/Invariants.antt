use Rattle.two_d.specs.Frames.{InColumn}
use Rattle.border_break.specs.Borders.{IsOfSide}
use Rattle.border_break.proofs.breaks.gap_in_column.Given as goal

abbrev pub invariant-loop-row : goal.invariant-loop-row
invariant-loop-row l = InColumn (IsOfSide l.figure) l.grid l.col l.top l.row
