-- The modules so far have no rings, and their orders are there.
use Rattle.two_d.specs.inner.Orders.{AreOrdersKept}
use Rattle.two_d.specs.Programs.{modules_of}
use Rattle.two_d.specs.inner.TableParts.{ring_of}
use Rattle.two_d.proofs.TableLemmas.{GoesOnAt}
use Rattle.two_d.proofs.table.orders_of.Given as goal

abbrev pub invariant-loop-number : goal.invariant-loop-number
invariant-loop-number l = record {
  whole : GoesOnAt ring_of (modules_of l.modules) l.number;
  kept : AreOrdersKept (modules_of l.modules) l.number l.orders.items;
}
