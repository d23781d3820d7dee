use Rattle.wire_trace.specs.Answers.{forms_of}
use Rattle.wire_trace.specs.inner.Areas.{AreMarks}
use Rattle.wire_trace.specs.inner.Sheets.{drawing_in}
use Rattle.wire_trace.specs.inner.Starts.{positions_of}
use Rattle.wire_trace.proofs.ListLemmas.{AreBegun}
use Rattle.wire_trace.proofs.wire.trace_all.Given as goal

abbrev pub invariant-starts : goal.invariant-starts
invariant-starts l = record {
  marks : AreMarks l.fn.marks.area l.marks;
  begun : AreBegun (drawing_in l.sheet) (positions_of l.starts) l.start-index l.marks (forms_of l.wires);
}
