-- What the start and the first boxes that were found feed, was found.
use Rattle.std.specs.Prelude.{ℕ, ◌≤◌, ◌-◌, length}
use Rattle.std.specs.List.{Contains}
use Rattle.two_d.specs.Programs.{module_of}
use Rattle.two_d.specs.Sound.{Feeds}
use Rattle.two_d.proofs.Reached.{AreFound, IsClosedTo}
use Rattle.two_d.proofs.ring.reaches_itself.Given as goal

abbrev pub invariant-follow : goal.invariant-follow
invariant-follow l = record {
  are : AreFound (module_of l.module) l.start l.seen.items l.found.items;
  first : (t : ℕ) → Feeds (module_of l.module) l.start t → Contains l.found.items t;
  closed : IsClosedTo (module_of l.module) l.found.items l.next;
  within : l.next ≤ length l.found.items;
}

abbrev pub decreases-follow : goal.decreases-follow
decreases-follow l = length (module_of l.module).boxes - l.next
