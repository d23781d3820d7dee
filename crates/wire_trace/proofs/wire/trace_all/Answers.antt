use Rattle.std.proofs.Common.{subst}
use Rattle.std.proofs.lemmas.Result.{err_from_is_err_and}
use Rattle.wire_trace.specs.Answers.{wire_fault_of}
use Rattle.wire_trace.specs.inner.Areas.{AreMarks}
use Rattle.wire_trace.specs.inner.Sheets.{drawing_in}
use Rattle.wire_trace.proofs.ListLemmas.{none_begun, next_start, start_refused}
use Rattle.wire_trace.proofs.wire.trace_all.Goals as goal

pub starts-init : goal.starts-init
starts-init c = record {
  marks = c.requires.marks;
  begun = none_begun (drawing_in c.args.sheet.now) c.args.starts.now c.args.marks.now c.new-wires.result c.new-wires.ensures.items c.requires.none;
}

pub returns-in_err-to-clause-answers : goal.returns-in_err-to-clause-answers
returns-in_err-to-clause-answers c =
    let p = err_from_is_err_and c.from_residual.result c.from_residual.ensures.1 in
    rw (p.1, p.2) (start_refused (drawing_in c.args.sheet.now) c.args.starts.now c.starts.start-index _ c.starts.marks c.starts.wires (wire_fault_of c.in_err-to.field-0.0) c.starts-test.true c.in_err-to.ensures.answers c.starts.invariant.begun)

pub starts-preserved : goal.starts-preserved
starts-preserved c = record {
  marks = let e = c.starts.invariant.marks.area in subst (λ a. AreMarks a c.trace.new.marks) e c.in_ok-to.ensures.marks;
  begun = next_start (drawing_in c.args.sheet.now) c.args.starts.now c.starts.start-index _ c.starts.marks c.trace.new.marks c.starts.wires c.push.new.self c.in_ok-to.to c.starts-test.true c.requires.starts c.in_ok-to.ensures.answers c.in_ok-push.ensures.items c.starts.invariant.begun;
}
