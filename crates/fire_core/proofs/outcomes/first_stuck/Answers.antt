use Rattle.std.specs.Prelude.{◌≡◌, ◌<◌, length}
use Rattle.std.proofs.Common.{arith, sym}
use Rattle.fire_core.proofs.OutcomeLemmas.{first_below-at, first_below-none, first_below-whole}
use Rattle.fire_core.proofs.outcomes.first_stuck.Goals as goal

pub returns-in-Some-clause-trail : goal.returns-in-Some-clause-trail
returns-in-Some-clause-trail c = λ values trails.
    let lt : c.loop-bx.bx < length c.args.row.now.cells.items = omega arith in
    sym (first_below-at (length c.args.row.now.cells.items) c.loop-bx.bx _ _ lt (c.loop-bx.invariant values trails) (sym (c.in-Some.ensures.trail values trails)))

pub loop-bx-preserved : goal.loop-bx-preserved
loop-bx-preserved c = λ values trails. first_below-none c.loop-bx.bx _ (c.loop-bx.invariant values trails) (sym (c.in-None.ensures.trail values trails))

pub returns-clause-trail : goal.returns-clause-trail
returns-clause-trail c = λ values trails.
    let all : c.loop-bx.bx ≡ length c.args.row.now.cells.items = omega arith in
    first_below-whole c.loop-bx.bx (length c.args.row.now.cells.items) _ all (c.loop-bx.invariant values trails)
