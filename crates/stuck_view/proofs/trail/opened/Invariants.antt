-- The callers so far are the last of the trail, and the place has the rest of it.
use Rattle.two_d.specs.Trails.{trail_at}
use Rattle.two_d.proofs.TrailLemmas.{IsOpened}
use Rattle.stuck_view.proofs.trail.opened.Given as goal

abbrev pub invariant-loop-site : goal.invariant-loop-site
invariant-loop-site l = IsOpened l.trails (trail_at l.trails l.at) l.place l.callers.items

abbrev pub decreases-loop-site : goal.decreases-loop-site
decreases-loop-site l = l.place
