use Rattle.std.proofs.Common.{◌≡◌}
use Rattle.grid_draw.proofs.ProgramDrawn.{Counted}
use Rattle.grid_draw.proofs.drawing.size.Given as goal

abbrev pub invariant-loop-i : goal.invariant-loop-i
invariant-loop-i l = Counted l.modules l.i l.size
