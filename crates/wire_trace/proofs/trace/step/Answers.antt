use Rattle.wire_trace.specs.inner.Positions.{position_of}
use Rattle.wire_trace.specs.inner.Sheets.{drawing_in}
use Rattle.wire_trace.proofs.PortLemmas.{in_area}
use Rattle.wire_trace.proofs.WayLemmas.{taker_covers}
use Rattle.wire_trace.proofs.trace.step.Goals as goal

pub has-requires-clause-place : goal.has-requires-clause-place
has-requires-clause-place c = in_area (drawing_in c.args.sheet.now).frame c.args.marks.now.area c.next-next.result.place c.requires.area (taker_covers (drawing_in c.args.sheet.now) (position_of c.next-next.result) c.requires.sheet.laid (c.is_taker.ensures.0 c.if-not-is_taker.false))
