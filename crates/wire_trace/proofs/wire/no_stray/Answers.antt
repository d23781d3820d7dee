use Rattle.wire_trace.specs.inner.Sheets.{drawing_in}
use Rattle.wire_trace.proofs.StrayLemmas.{stray_refused, no_stray}
use Rattle.wire_trace.proofs.wire.no_stray.Goals as goal

pub returns-in-Some : goal.returns-in-Some
returns-in-Some c traces tells = stray_refused (drawing_in c.args.sheet.now) c.args.owners.now c.args.marks.now traces c.in-Some.place c.requires.owners tells c.in-Some.ensures

pub returns-in-None : goal.returns-in-None
returns-in-None c traces tells = no_stray (drawing_in c.args.sheet.now) c.args.owners.now c.args.marks.now traces c.requires.owners tells c.in-None.ensures
