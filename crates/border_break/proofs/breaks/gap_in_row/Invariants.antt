use Rattle.two_d.specs.Frames.{InRow}
use Rattle.border_break.specs.Borders.{IsOfBottom}
use Rattle.border_break.proofs.breaks.gap_in_row.Given as goal

abbrev pub invariant-loop-col : goal.invariant-loop-col
invariant-loop-col l = InRow (IsOfBottom l.figure) l.grid l.row l.left l.col
