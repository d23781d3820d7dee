-- Some boxes are placed, and each turn places one more.
use Rattle.std.specs.Prelude.{◌≤◌, ◌-◌, length}
use Rattle.two_d.specs.inner.Orders.{Has}
use Rattle.two_d.specs.Programs.{module_of}
use Rattle.two_d.proofs.Placing.{IsUnderWay}
use Rattle.two_d.proofs.order.kept_order.Given as goal

abbrev pub invariant-place : goal.invariant-place
invariant-place l = record {
  way : IsUnderWay (module_of l.module) l.placed.items (Has l.ready) l.order.items;
  few : length l.order.items ≤ length (module_of l.module).boxes;
}

abbrev pub decreases-place : goal.decreases-place
decreases-place l = length (module_of l.module).boxes - length l.order.items
