use Rattle.std.specs.Prelude.{◌≤◌, ◌<◌, ◌-◌, ℕ}
use Rattle.mark_list.specs.Marks.{at}
use Rattle.ready_marks.proofs.slots.Slots.instance_of.Given as goal

abbrev pub invariant-loop-low : goal.invariant-loop-low
invariant-loop-low l = record {
  low_in : l.low < l.high;
  high_in : l.high ≤ l.instances;
  below : at l.self.starts l.low ≤ l.place;
  above : l.place < at l.self.starts l.high;
}

abbrev pub decreases-loop-low : goal.decreases-loop-low
decreases-loop-low l = l.high - l.low
