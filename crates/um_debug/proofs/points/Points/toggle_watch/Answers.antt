use Rattle.std.proofs.Common.{List, refl, subst}
use Rattle.std.specs.Prelude.{IfOk}
use Rattle.um_debug.specs.declared.command.WordPlace.{WordPlace}
use Rattle.um_debug.specs.Course.{Points}
use Rattle.um_debug.specs.Session.{toggled, is_place, most_watches}
use Rattle.um_debug.specs.inner.Calls.{Changes}
use Rattle.um_debug.proofs.Toggles.{changes, unchanged, still_few}
use Rattle.um_debug.proofs.points.Points.toggle_watch.Goals as goal

pub invariant_of-self : goal.invariant_of-self
invariant_of-self c =
    still_few (is_place c.args.place) most_watches c.args.place c.self.inside.watches.items c.change.new.list.items c.change.result
    c.change.ensures.ok c.change.ensures.err c.self.invariant

pub returns-clause-ok : goal.returns-clause-ok
returns-clause-ok c =
    subst (λ (p : Points). IfOk c.change.result (Changes (toggled (is_place c.args.place) most_watches c.args.place p.watches) p
    (λ xs. record p { watches = xs }) (record { breakpoints = c.self.inside.breakpoints.items; watches = c.change.new.list.items })))
    c.self.view_is
    (changes (toggled (is_place c.args.place) most_watches c.args.place c.self.inside.watches.items)
    (record { breakpoints = c.self.inside.breakpoints.items; watches = c.self.inside.watches.items })
    (λ (xs : List WordPlace). record { breakpoints = c.self.inside.breakpoints.items; watches = xs })
    c.self.inside.watches.items c.change.new.list.items c.change.result refl c.change.ensures.ok)

pub returns-clause-err : goal.returns-clause-err
returns-clause-err c =
    unchanged c.args.self.now (λ (xs : List WordPlace). record { breakpoints = c.self.inside.breakpoints.items; watches = xs })
    c.self.inside.watches.items c.change.new.list.items c.change.result c.self.view_is c.change.ensures.err
