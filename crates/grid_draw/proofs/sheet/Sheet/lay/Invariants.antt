use Rattle.grid_draw.proofs.InksLaid.{LayingOn}
use Rattle.grid_draw.proofs.sheet.Sheet.lay.Given as goal

abbrev pub invariant-loop-bend : goal.invariant-loop-bend
invariant-loop-bend l = LayingOn l.fn.self l.self l.course.first l.bend-items l.bend-index l.pen
