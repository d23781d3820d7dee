use Rattle.std.proofs.Common.{subst}
use Rattle.std.proofs.lemmas.Result.{err_from_is_err_and}
use Rattle.wire_trace.specs.declared.area.Area.{Area}
use Rattle.wire_trace.specs.inner.Areas.{AreMarks}
use Rattle.wire_trace.specs.inner.Positions.{position_of}
use Rattle.wire_trace.specs.inner.Sheets.{drawing_in}
use Rattle.wire_trace.proofs.StartLemmas.{start_covers}
use Rattle.wire_trace.proofs.TraceLemmas.{followed_first, followed_next, fails}
use Rattle.wire_trace.proofs.Tracing.{wire_ends}
use Rattle.wire_trace.proofs.WayLemmas.{taker_covers}
use Rattle.wire_trace.proofs.trace.trace.Goals as goal

pub occupy-requires-clause-place : goal.occupy-requires-clause-place
occupy-requires-clause-place c = start_covers (drawing_in c.args.sheet.now) (position_of c.args.start.now.at) c.args.start.now.from c.requires.sheet.laid c.requires.start

pub occupy-requires-in-cells-clause-place : goal.occupy-requires-in-cells-clause-place
occupy-requires-in-cells-clause-place c = taker_covers (drawing_in c.args.sheet.now) (position_of c.in_ok-here.here) c.requires.sheet.laid c.in_ok-here.ensures.taker

pub cells-init : goal.cells-init
cells-init c = record {
  marks = c.occupy.ensures.marks;
  place = start_covers (drawing_in c.args.sheet.now) (position_of c.args.start.now.at) c.args.start.now.from c.requires.sheet.laid c.requires.start;
  followed = λ earlier told. followed_first (drawing_in c.args.sheet.now) c.args.marks.now c.occupy.new.marks earlier (position_of c.args.start.now.at) c.args.start.now.from c.requires.start c.occupy.ensures.occupies told;
}

pub cells-preserved : goal.cells-preserved
cells-preserved c = record {
  marks = subst (λ (a : Area). AreMarks a c.occupy-in-cells.new.marks) c.cells.invariant.marks.area c.occupy-in-cells.ensures.marks;
  place = taker_covers (drawing_in c.args.sheet.now) (position_of c.in_ok-here.here) c.requires.sheet.laid c.in_ok-here.ensures.taker;
  followed = λ earlier told. followed_next (drawing_in c.args.sheet.now) c.cells.marks c.occupy-in-cells.new.marks earlier (position_of c.args.start.now.at) (position_of c.cells.here) (position_of c.in_ok-here.here) c.requires.sheet.laid c.in_ok-here.ensures c.occupy-in-cells.ensures.occupies (c.cells.invariant.followed earlier told);
}

pub returns-in-Some-clause-answers : goal.returns-in-Some-clause-answers
returns-in-Some-clause-answers c earlier told =
    let (way, under, occupied) = c.cells.invariant.followed earlier told in record {
      trace = way;
      read = wire_ends (drawing_in c.args.sheet.now) earlier (position_of c.args.start.now.at) (position_of c.cells.here) way under (c.in-Some.end, c.in-Some.ensures);
      last = position_of c.cells.here;
      is_last = under.last;
      ends = c.in-Some.ensures;
      occupied = occupied;
    }

pub returns-in_err-here-clause-answers : goal.returns-in_err-here-clause-answers
returns-in_err-here-clause-answers c earlier told =
    let p = err_from_is_err_and c.from_residual.result c.from_residual.ensures.1 in
    rw (p.1, p.2) (fails (drawing_in c.args.sheet.now) c.cells.marks earlier (position_of c.args.start.now.at) (position_of c.cells.here) c.args.start.now.from c.in_err-here.field-0.0 c.requires.sheet.laid c.requires.start c.in_err-here.ensures (c.cells.invariant.followed earlier told))
