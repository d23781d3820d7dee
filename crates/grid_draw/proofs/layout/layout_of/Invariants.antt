use Rattle.std.proofs.Common.{length}
use Rattle.grid_draw.proofs.LayoutBuilt.{Measured}
use Rattle.grid_draw.proofs.layout.layout_of.Given as goal

abbrev pub invariant-loop-row : goal.invariant-loop-row
invariant-loop-row l = Measured l.row-items (length l.«module».name) l.row-index l.texts.items l.reach
