use Rattle.std.proofs.Common.{◌<◌}
use Rattle.umix_base.specs.declared.place.Place.{Place}
use Rattle.two_d.specs.Places.{at, Before}
use Rattle.wire_trace.specs.inner.Sheets.{drawing_in}
use Rattle.wire_trace.specs.inner.Starts.{HasStarts}
use Rattle.wire_trace.proofs.starts.starts.Given as goal

abbrev pub invariant-rows : goal.invariant-rows
invariant-rows l = HasStarts (drawing_in l.sheet) (λ (q : Place). q.row < l.row) l.starts.items

abbrev pub invariant-columns : goal.invariant-columns
invariant-columns l = HasStarts (drawing_in l.sheet) (λ (q : Place). Before q (at l.row l.col)) l.starts.items
