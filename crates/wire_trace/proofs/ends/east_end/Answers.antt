use Rattle.wire_trace.specs.inner.Sheets.{drawing_in}
use Rattle.wire_trace.proofs.EndLemmas.{end_east, end_exit, no_end_east}
use Rattle.wire_trace.proofs.ends.east_end.Goals as goal

pub returns-in-Some : goal.returns-in-Some
returns-in-Some c = end_east (drawing_in c.args.sheet.now) c.args.place c.in-Some.number c.in-Some.ensures

pub returns-in-Some-exit_number : goal.returns-in-Some-exit_number
returns-in-Some-exit_number c = end_exit (drawing_in c.args.sheet.now) c.args.place c.in-Some-exit_number.number c.in-Some-exit_number.ensures.0 c.in-Some-exit_number.ensures.1

pub returns-in-None : goal.returns-in-None
returns-in-None c = no_end_east (drawing_in c.args.sheet.now) c.args.place c.in_default.ensures c.in-None.ensures
