use Rattle.std.proofs.Common.{◌==◌, ℕ, List, refl, subst}
use Rattle.std.specs.Prelude.{IfOk}
use Rattle.um_debug.specs.Course.{Points}
use Rattle.um_debug.specs.Session.{toggled, most_breakpoints}
use Rattle.um_debug.specs.inner.Calls.{Changes}
use Rattle.um_debug.proofs.Toggles.{changes, unchanged}
use Rattle.um_debug.proofs.points.Points.toggle_breakpoint.Goals as goal

pub returns-clause-ok : goal.returns-clause-ok
returns-clause-ok c =
    subst (λ (p : Points). IfOk c.change.result (Changes (toggled (λ other. other == c.args.offset) most_breakpoints c.args.offset p.breakpoints) p
    (λ xs. record p { breakpoints = xs }) (record { breakpoints = c.change.new.list.items; watches = c.self.inside.watches.items })))
    c.self.view_is
    (changes (toggled (λ other. other == c.args.offset) most_breakpoints c.args.offset c.self.inside.breakpoints.items)
    (record { breakpoints = c.self.inside.breakpoints.items; watches = c.self.inside.watches.items })
    (λ (xs : List ℕ). record { breakpoints = xs; watches = c.self.inside.watches.items })
    c.self.inside.breakpoints.items c.change.new.list.items c.change.result refl c.change.ensures.ok)

pub returns-clause-err : goal.returns-clause-err
returns-clause-err c =
    unchanged c.args.self.now (λ (xs : List ℕ). record { breakpoints = xs; watches = c.self.inside.watches.items })
    c.self.inside.breakpoints.items c.change.new.list.items c.change.result c.self.view_is c.change.ensures.err
