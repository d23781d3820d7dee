use Rattle.std.proofs.Common.{◌≡◌, drop}
use Rattle.um_word.specs.State.{Arrays}
use Rattle.um_debug.specs.Course.{first_change}
use Rattle.um_debug.specs.inner.Calls.{AreWords}
use Rattle.um_debug.proofs.points.Points.look.Given as goal

abbrev pub invariant-loop-k : goal.invariant-loop-k
invariant-loop-k l =
    (before : Arrays) → AreWords before l.self.watches l.words →
    first_change before l.machine.arrays l.self.watches ≡ first_change before l.machine.arrays (drop l.k l.self.watches)
