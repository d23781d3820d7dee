use Rattle.std.proofs.Common.{drop, map}
use Rattle.grid_draw.specs.Layout.{courses, courses_from}
use Rattle.grid_draw.specs.inner.Layouts.{module_in, wire_of}
use Rattle.grid_draw.proofs.InksLaid.{Inking}
use Rattle.grid_draw.proofs.sheet.Sheet.inked.Given as goal

abbrev pub invariant-loop-j : goal.invariant-loop-j
invariant-loop-j l =
    Inking l.initial.sheet l.sheet (courses (module_in l.layout))
    (courses_from (module_in l.layout) l.j (map wire_of (drop l.j l.layout.wires.items)))
