-- The place is before the marks of the second instance.
use Rattle.std.specs.Prelude.{◌≤◌, ◌<◌, ℕ}
use Rattle.mark_list.specs.Marks.{at}
use Rattle.ready_marks.proofs.slots.Slots.near.Given as goal

abbrev pub invariant-loop-low : goal.invariant-loop-low
invariant-loop-low l = record {
  order : l.low < l.high;
  there : l.high ≤ l.instances;
  above : l.place < at l.self.starts l.high;
}

abbrev pub decreases-loop-low : goal.decreases-loop-low
decreases-loop-low l = l.low
