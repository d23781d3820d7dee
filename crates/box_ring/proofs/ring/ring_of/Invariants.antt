-- What the boxes so far wait for was found, and is not the first of them.
use Rattle.std.specs.Prelude.{◌≡◌, ℕ, ◌≤◌, ◌-◌, length, slice_get, Some}
use Rattle.two_d.specs.Programs.{module_of}
use Rattle.box_ring.specs.inner.Steps.{boxes_of}
use Rattle.box_ring.proofs.Finding.{AreFound, IsClosed}
use Rattle.box_ring.proofs.ring.ring_of.Given as goal

abbrev pub invariant-wait : goal.invariant-wait
invariant-wait l = record {
  are : AreFound (module_of l.module) l.seen.items l.found.items;
  first : slice_get (boxes_of l.found.items) 0 ≡ Some l.bx;
  closed : IsClosed (module_of l.module) l.bx l.found.items l.next;
  within : l.next ≤ length l.found.items;
}

abbrev pub decreases-wait : goal.decreases-wait
decreases-wait l = length (module_of l.module).boxes - l.next
