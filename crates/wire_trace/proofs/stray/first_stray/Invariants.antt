use Rattle.std.proofs.Common.{◌<◌}
use Rattle.umix_base.specs.declared.place.Place.{Place}
use Rattle.two_d.specs.Places.{at, Before}
use Rattle.wire_trace.specs.inner.Sheets.{drawing_in}
use Rattle.wire_trace.specs.inner.Strays.{IsLeft}
use Rattle.wire_trace.proofs.stray.first_stray.Given as goal

abbrev pub invariant-rows : goal.invariant-rows
invariant-rows l = (p : Place) → p.row < l.row → IsLeft (drawing_in l.sheet) l.owners l.marks p → ⊥

abbrev pub invariant-columns : goal.invariant-columns
invariant-columns l = (p : Place) → Before p (at l.row l.col) → IsLeft (drawing_in l.sheet) l.owners l.marks p → ⊥
