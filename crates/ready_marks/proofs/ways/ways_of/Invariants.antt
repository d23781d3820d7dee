use Rattle.two_d.specs.Programs.{module_of}
use Rattle.ready_marks.specs.Ways.{ways_form}
use Rattle.ready_marks.specs.inner.Noted.{AreWaysBelow}
use Rattle.ready_marks.proofs.ways.ways_of.Given as goal

abbrev pub invariant-loop-bx : goal.invariant-loop-bx
invariant-loop-bx l = AreWaysBelow (module_of l.«module») l.bx (ways_form l.ways)
