use Rattle.wire_trace.specs.inner.Sheets.{drawing_in}
use Rattle.wire_trace.proofs.EndLemmas.{end_south, no_end_south}
use Rattle.wire_trace.proofs.ends.south_end.Goals as goal

pub returns-in-Some : goal.returns-in-Some
returns-in-Some c = end_south (drawing_in c.args.sheet.now) c.args.place c.in-Some.number c.in-Some.ensures

pub returns-in-None : goal.returns-in-None
returns-in-None c = no_end_south (drawing_in c.args.sheet.now) c.args.place c.in-None.ensures
