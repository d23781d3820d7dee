use Rattle.std.proofs.Common.{refl}
use Rattle.two_d.specs.Places.{Covers}
use Rattle.wire_trace.specs.inner.Sheets.{drawing_in}
use Rattle.wire_trace.proofs.PortLemmas.{finds_owner, found_below}
use Rattle.wire_trace.proofs.ports.owner.Goals as goal

pub returns-clause-found : goal.returns-clause-found
returns-clause-found c = finds_owner (drawing_in c.args.sheet.now) c.args.owners.now c.args.place c.at.result c.requires.owners c.requires.place c.at.ensures

pub returns-clause-bound : goal.returns-clause-bound
returns-clause-bound c = found_below (drawing_in c.args.sheet.now) c.args.sheet.now.boxes.now (λ b. Covers b c.args.place) c.at.result refl (finds_owner (drawing_in c.args.sheet.now) c.args.owners.now c.args.place c.at.result c.requires.owners c.requires.place c.at.ensures)
