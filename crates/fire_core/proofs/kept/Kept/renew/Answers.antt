-- All that is due is looked at in turn.
use Rattle.std.specs.Prelude.{◌≡◌, ◌<◌, length, map}
use Rattle.std.proofs.Common.{sym, ap, subst, ◌∙◌, arith}
use Rattle.ready_marks.specs.Ways.{ways_form}
use Rattle.fire_core.specs.Events.{event_of}
use Rattle.fire_core.specs.Kept.{KeptView, kept_view}
use Rattle.fire_core.specs.inner.Changes.{IsDue}
use Rattle.fire_core.proofs.DueLemmas.{due-told, due-end, renewed}
use Rattle.fire_core.proofs.kept.Kept.renew.Goals as goal

pub renew_told-requires-clause-there : goal.renew_told-requires-clause-there
renew_told-requires-clause-there c = λ i b is. let there = c.requires.due.told_there i b is in (omega (arith, there.0, c.requires.due.low), there.1)

pub renew_told-requires-clause-others : goal.renew_told-requires-clause-others
renew_told-requires-clause-others c =
    let P = c.args.program.now in
    let U = c.args.instances.now.table in
    let e = event_of c.args.event in
    let kept = kept_view c.self.inside.slots c.self.inside.ways.items c.self.inside.most in
    let due : IsDue P U kept e c.args.told c.args.before = subst (λ (k : KeptView). IsDue P U k e c.args.told c.args.before) (sym c.self.view_is) c.requires.due in
    rw c.deref.ensures.value (due-told P U kept e c.args.told c.args.before due c.add_new.new.slots c.add_new.ensures.stays)

pub renew_maker-requires-clause-boxes : goal.renew_maker-requires-clause-boxes
renew_maker-requires-clause-boxes c =
    let P = c.args.program.now in
    let U = c.args.instances.now.table in
    let e = event_of c.args.event in
    let kept = kept_view c.self.inside.slots c.self.inside.ways.items c.self.inside.most in
    let due : IsDue P U kept e c.args.told c.args.before = subst (λ (k : KeptView). IsDue P U k e c.args.told c.args.before) (sym c.self.view_is) c.requires.due in
    due-end P U kept e c.args.told c.args.before due c.add_new.new.slots c.add_new.ensures.stays c.renew_told.new.slots c.renew_told.ensures.keeps c.renew_told.ensures.all

pub returns : goal.returns
returns c =
    let P = c.args.program.now in
    let U = c.args.instances.now.table in
    let e = event_of c.args.event in
    let kept = kept_view c.self.inside.slots c.self.inside.ways.items c.self.inside.most in
    let due : IsDue P U kept e c.args.told c.args.before = subst (λ (k : KeptView). IsDue P U k e c.args.told c.args.before) (sym c.self.view_is) c.requires.due in
    record {
      slots = renewed P U kept e c.args.told c.args.before due c.add_new.new.slots c.add_new.ensures.stays c.renew_told.new.slots c.renew_told.ensures.keeps c.renew_told.ensures.all
          c.renew_maker.new.slots c.renew_maker.ensures.keeps c.renew_maker.ensures.end c.add_new.ensures.new c.add_new.ensures.rest;
      ways = due.ways;
      most = due.most;
    }
