use Rattle.std.proofs.Common.{sym, subst, ◌+◌}
use Rattle.two_d.specs.Places.{at, Before}
use Rattle.umix_base.specs.declared.place.Place.{Place}
use Rattle.wire_trace.specs.inner.Starts.{HasStarts}
use Rattle.wire_trace.specs.inner.Sheets.{drawing_in}
use Rattle.wire_trace.proofs.StartLemmas.{with_start, without_start}
use Rattle.wire_trace.proofs.starts.add_start.Goals as goal

pub returns-in_ok-push : goal.returns-in_ok-push
returns-in_ok-push c = subst (HasStarts (drawing_in c.args.sheet.now) (λ (q : Place). Before q (at c.args.place.row (c.args.place.col + 1)))) (sym c.in_ok-push.ensures.items) (with_start (drawing_in c.args.sheet.now) c.args.place c.args.starts.now.items c.in-Some.start c.in-Some.ensures c.requires.starts)

pub returns-in_default : goal.returns-in_default
returns-in_default c = without_start (drawing_in c.args.sheet.now) c.args.place c.args.starts.now.items c.in_default.ensures c.requires.starts
