-- The ends of the boxes so far have been seen.
use Rattle.two_d.specs.inner.Orders.{AreTargets}
use Rattle.two_d.specs.Programs.{module_of}
use Rattle.two_d.proofs.order.targets.Given as goal

abbrev pub invariant-loop-number : goal.invariant-loop-number
invariant-loop-number l = AreTargets (module_of l.module) l.side l.number l.number l.targets.items
