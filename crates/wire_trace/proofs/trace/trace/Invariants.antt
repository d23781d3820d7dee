use Rattle.std.proofs.Common.{List}
use Rattle.two_d.specs.Places.{Covers}
use Rattle.two_d.specs.Wires.{Trace}
use Rattle.wire_trace.specs.inner.Areas.{AreMarks, unmarked}
use Rattle.wire_trace.specs.inner.Positions.{position_of}
use Rattle.wire_trace.specs.inner.Sheets.{drawing_in}
use Rattle.wire_trace.specs.inner.Traces.{AreOccupied}
use Rattle.wire_trace.proofs.TraceLemmas.{IsFollowed}
use Rattle.wire_trace.proofs.trace.trace.Given as goal

abbrev pub invariant-cells : goal.invariant-cells
invariant-cells l = record {
  marks : AreMarks l.fn.marks.area l.marks;
  place : Covers (drawing_in l.sheet).frame l.here.place;
  followed : (earlier : List Trace) → AreOccupied (drawing_in l.sheet) l.fn.marks earlier → IsFollowed (drawing_in l.sheet) earlier (position_of l.start.at) (position_of l.here) l.marks;
}

abbrev pub decreases-cells : goal.decreases-cells
decreases-cells l = unmarked l.marks
