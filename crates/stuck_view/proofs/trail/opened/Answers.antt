-- A site is reached, or one caller more.
use Rattle.two_d.specs.Trails.{trail_at}
use Rattle.two_d.proofs.TrailLemmas.{opened-at, opened-via}
use Rattle.stuck_view.proofs.trail.opened.Goals as goal

pub returns-in-At-clause-site : goal.returns-in-At-clause-site
returns-in-At-clause-site c = (opened-at _ (trail_at c.args.trails.now c.args.at) c.loop-site.place _ c.in-At.site c.loop-site.invariant c.in-At.ensures.node).0

pub returns-in-At-clause-callers : goal.returns-in-At-clause-callers
returns-in-At-clause-callers c = (opened-at _ (trail_at c.args.trails.now c.args.at) c.loop-site.place _ c.in-At.site c.loop-site.invariant c.in-At.ensures.node).1

pub loop-site-preserved : goal.loop-site-preserved
loop-site-preserved c =
    opened-via _ _ c.loop-site.place _ _ c.in-Via.«module» c.in-Via.bx c.in-Via.inner c.loop-site.invariant c.in-Via.ensures.node c.in-Via.ensures.inner
    c.in_ok-push-in-Via.ensures.items
